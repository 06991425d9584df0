use Rattle.std.proofs.Common.{rules, ◌≡◌, ℕ, ◌+◌, ◌≤◌, ◌⊎◌, inl, inr, refl, true, false, sym, ◌∙◌, ap, arith, List, length, None, Ok, Err}
use Rattle.std.specs.Prelude.{nat_le}
use Rattle.std.proofs.lemmas.Bool.Decides.{nat_tests}
use Rattle.std.proofs.lemmas.Result.{err_from_is_err_and}
use Rattle.model.specs.declared.refusal.Refusal.{Refusal}
use Rattle.model.specs.declared.refusal.Refusal.TheVariants.{Memory, Quota}
use Rattle.model.specs.Derivations.{Derivation}
use Rattle.model.specs.Replies as replies
use Rattle.model.specs.Outcomes.{becomes}
use Rattle.model.specs.DerivationRequests.{told_of_derivation}
use Rattle.model.specs.Classes.{Admission, known_at, derivation_path, admit}
use Rattle.model.specs.Worlds.{Source}
use Rattle.events.specs.Terms.{reply_of}
use Rattle.handlers.specs.Sound.{desk_of, IsSound, Beside}
use Rattle.handlers.specs.Handling.{is_fault}
use Rattle.realise.specs.Holdings.{Holdings, holds_derivation}
use Rattle.handlers.proofs.DeskLemmas.{sound-derivation}
use Rattle.model.specs.Limits.{most_derivations}
use Rattle.model.specs.Replies.{is_clash_refusal}
use Rattle.handlers.proofs.DerivationLemmas.{new_outcome, admitted_path, refused_added, over_fits, added_fits}
use Rattle.handlers.proofs.derivations.add_new.Goals as goal

-- no more than the limit is refused where memory is not
over_fits_if : (users : List (List ℕ)) (beside : Beside) (table : List Source) (limit : ℕ) (d : Holdings) (derivation : Derivation) (a : Admission)
    (e : Refusal)
    → IsSound table limit d → known_at d.known (derivation_path derivation) ≡ None → admit d.known derivation ≡ Ok a
    → (e ≡ Memory) ⊎ ((e ≡ Quota) × (most_derivations ≤ length d.known.derivations))
    → is_fault e ≡ false → new_outcome users beside table limit d derivation ≡ Err e
over_fits_if users beside table limit d derivation a e sound none ok (inl memory) own = (let wrong = rw memory at own in cc)
over_fits_if users beside table limit d derivation a e sound none ok (inr quota) own =
    let over : nat_le (length d.known.derivations + 1) most_derivations ≡ false = grind (arith, nat_tests, quota.1) in
    rw quota.0 (over_fits users beside table limit d derivation a sound none ok over)

over_no_clash : (d : Holdings) (e : Refusal) → (e ≡ Memory) ⊎ ((e ≡ Quota) × (most_derivations ≤ length d.known.derivations)) → is_clash_refusal e ≡ false
over_no_clash d e (inl memory) = rw memory refl
over_no_clash d e (inr quota) = rw quota.0 refl

-- the desk has no derivation at the path of its file
absent : (d : Holdings) (a : Admission) → known_at d.known a.path ≡ None → admit d.known a.derivation ≡ Ok a
    → known_at d.known (derivation_path a.derivation) ≡ None
absent d a none ok = ap (known_at d.known) (sym (admitted_path d.known a.derivation a ok)) ∙ none

pub returns-in_err-path : goal.returns-in_err-path
returns-in_err-path c =
    let p = err_from_is_err_and c.from_residual.result c.from_residual.ensures.1 in
    let desk = c.args.desk.now in
    let a = c.args.admitted in
    let none = absent desk a c.requires.absent c.requires.admits in
    let why : (p.0 ≡ Memory) ⊎ ((p.0 ≡ Quota) × (most_derivations ≤ length desk.known.derivations)) = rw p.2 c.in_err-path.ensures.refused in
    refused_added desk a.derivation c.from_residual.result p.0 p.1 (over_no_clash desk p.0 why)
    (λ table limit sound users beside. over_fits_if users beside table limit desk a.derivation a p.0 sound none c.requires.admits why)

changed : (c : goal.In_ok-add_derivation) → c.add_derivation.new.self ≡ holds_derivation c.args.admitted c.args.desk.now
changed c = search rules

pub returns : goal.returns
returns c =
    let known = c.args.desk.now.known in
    let a = c.args.admitted in
    let none = absent c.args.desk.now a c.requires.absent c.requires.admits in
    let within : nat_le (length known.derivations + 1) most_derivations ≡ true = grind (arith, nat_tests, c.in_ok-path.ensures.within) in
    let told : replies.Derivation c.in_ok-path.path c.in_ok-path.class ≡ told_of_derivation a =
    ap (λ p. replies.Derivation p c.in_ok-path.class) c.in_ok-path.ensures.file
    ∙ ap (replies.Derivation a.path) c.in_ok-path.ensures.class in
    record {
      adds = λ table limit sound users beside.
          added_fits users beside table limit c.args.desk.now a.derivation a sound none c.requires.admits within
          ∙ ap (λ d. becomes (desk_of beside table d) (told_of_derivation a)) (sym (changed c))
          ∙ ap (becomes (desk_of beside table c.add_derivation.new.self)) (sym (ap reply_of c.in_ok-reply.ensures.reply ∙ told));
      sound = λ table limit sound.
          rw (changed c) (sound-derivation table limit c.args.desk.now a sound (omega (arith, c.in_ok-path.ensures.within)));
      answered = search rules;
      gains = search rules;
      kept = tt;
      no_clash = tt;
    }
