use Rattle.std.proofs.Common.{◌≡◌, ℕ, Bool, true, false, List, sym, ◌∙◌, ap, subst, arith, Some, None, Ok}
use Rattle.std.specs.Prelude.{◌==◌}
use Rattle.std.proofs.lemmas.Bool.Decides.{nat_tests}
use Rattle.model.specs.Events.{Trust}
use Rattle.trust.specs.Trusting.{trusts}
use Rattle.trust.specs.Naming.{place_of}
use Rattle.trust.proofs.PlaceLemmas.{name_found}
use Rattle.events.specs.declared.reply.Reply.TheVariants.{Ok as OkReply}
use Rattle.handlers.specs.Parts.{parts}
use Rattle.handlers.specs.Handling.{IsHandled}
use Rattle.trust.proofs.UsersLemmas.{few_users}
use Rattle.handlers.proofs.TrustLemmas.{trust_unknown, trust_own, trust_handled}
use Rattle.handlers.proofs.trusting.add_trust.Goals as goal
use Rattle.handlers.proofs.trusting.add_trust.Goals.{then-other-place, else-other-place}

pub returns-in_default-clause-handled : goal.returns-in_default-clause-handled
returns-in_default-clause-handled c limit goals table desks actor found paired sound goals_sound within =
    let none : place_of c.args.users.now c.args.other.now ≡ None = sym c.place_of.ensures ∙ c.in_default.is in
    trust_unknown c.args.users.now limit (trusts c.args.trust.now) goals table desks actor c.args.place c.args.other.now found none sound goals_sound within

pub add-requires-clause-of_run : goal.add-requires-clause-of_run
add-requires-clause-of_run c =
    let its : place_of c.args.users.now c.args.other.now ≡ Some c.in-Some.other = sym c.place_of.ensures ∙ c.in-Some.is in
    omega (arith, c.requires.of_run, (name_found c.args.users.now c.args.other.now c.in-Some.other its).0, few_users c.args.users.now c.requires.listed)

pub add-requires-clause-other_of_run : goal.add-requires-clause-other_of_run
add-requires-clause-other_of_run c =
    let its : place_of c.args.users.now c.args.other.now ≡ Some c.in-Some.other = sym c.place_of.ensures ∙ c.in-Some.is in
    omega (arith, c.requires.of_run, (name_found c.args.users.now c.args.other.now c.in-Some.other its).0, few_users c.args.users.now c.requires.listed)

pub returns-clause-handled : goal.returns-clause-handled
returns-clause-handled c limit goals table desks actor found paired sound goals_sound within =
    let users : List (List ℕ) = c.args.users.now in
    let old : ℕ → ℕ → Bool = trusts c.args.trust.now in
    let its : place_of users c.args.other.now ≡ Some c.in-Some.other = sym c.place_of.ensures ∙ c.in-Some.is in
    let Handled : (ℕ → ℕ → Bool)
    → Type 0 = λ now. IsHandled (parts users limit old goals table desks) (record { actor = actor; request = Trust c.args.other.now }) (Ok OkReply)
    (parts users limit now goals table desks) in
    rw c.done.ensures (elim c.if-other-place.branch [
      | then-other-place w ↦
          let differs : (c.in-Some.other == c.args.place) ≡ false = grind (arith, nat_tests, w.if-other-place.true) in
          subst Handled (sym (ap trusts w.trust-is ∙ w.add.ensures))
          (trust_handled users limit old goals table desks actor c.args.place c.args.other.now c.in-Some.other c.requires.listed found its paired
          sound goals_sound within differs)
      | else-other-place w ↦
          let same : (c.in-Some.other == c.args.place) ≡ true = grind (arith, nat_tests, w.if-other-place.false) in
          subst Handled (sym (ap trusts w.trust-is))
          (trust_own users limit old goals table desks actor c.args.place c.args.other.now c.in-Some.other c.requires.listed found its
          paired sound goals_sound within same)
    ])
