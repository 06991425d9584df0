use Rattle.std.proofs.Common.{◌≡◌, ℕ, List, Bool, sym, ◌∙◌, subst, arith, Some, None, Ok}
use Rattle.model.specs.Events.{Distrust}
use Rattle.trust.specs.Trusting.{trusts}
use Rattle.trust.specs.Naming.{place_of}
use Rattle.trust.proofs.PlaceLemmas.{name_found}
use Rattle.events.specs.declared.reply.Reply.TheVariants.{Ok as OkReply}
use Rattle.handlers.specs.Parts.{parts}
use Rattle.handlers.specs.Handling.{IsHandled}
use Rattle.trust.proofs.UsersLemmas.{few_users}
use Rattle.handlers.proofs.TrustLemmas.{distrust_unknown, distrust_handled}
use Rattle.handlers.proofs.trusting.remove_trust.Goals as goal

pub returns-in_default-clause-handled : goal.returns-in_default-clause-handled
returns-in_default-clause-handled c limit goals table desks actor found paired sound goals_sound within =
    let none : place_of c.args.users.now c.args.other.now ≡ None = sym c.place_of.ensures ∙ c.in_default.is in
    distrust_unknown c.args.users.now limit (trusts c.args.trust.now) goals table desks actor c.args.place c.args.other.now found none sound goals_sound within

pub remove-requires-clause-of_run : goal.remove-requires-clause-of_run
remove-requires-clause-of_run c =
    let its : place_of c.args.users.now c.args.other.now ≡ Some c.in-Some.other = sym c.place_of.ensures ∙ c.in-Some.is in
    omega (arith, c.requires.of_run, (name_found c.args.users.now c.args.other.now c.in-Some.other its).0, few_users c.args.users.now c.requires.listed)

pub remove-requires-clause-other_of_run : goal.remove-requires-clause-other_of_run
remove-requires-clause-other_of_run c =
    let its : place_of c.args.users.now c.args.other.now ≡ Some c.in-Some.other = sym c.place_of.ensures ∙ c.in-Some.is in
    omega (arith, c.requires.of_run, (name_found c.args.users.now c.args.other.now c.in-Some.other its).0, few_users c.args.users.now c.requires.listed)

pub returns-clause-handled : goal.returns-clause-handled
returns-clause-handled c limit goals table desks actor found paired sound goals_sound within =
    let users : List (List ℕ) = c.args.users.now in
    let old : ℕ → ℕ → Bool = trusts c.args.trust.now in
    let its : place_of users c.args.other.now ≡ Some c.in-Some.other = sym c.place_of.ensures ∙ c.in-Some.is in
    let Handled : (ℕ → ℕ → Bool) → Type 0 = λ now.
    IsHandled (parts users limit old goals table desks) (record { actor = actor; request = Distrust c.args.other.now }) (Ok OkReply)
    (parts users limit now goals table desks) in
    rw c.done.ensures (subst Handled (sym c.remove.ensures)
    (distrust_handled users limit old goals table desks actor c.args.place c.args.other.now c.in-Some.other c.requires.listed found its paired sound
    goals_sound within))
