use Rattle.std.proofs.Common.{◌≡◌, ℕ, List, ap, Some, true, false, refl, sym, ◌∙◌, arith, rules, length, Err}
use Rattle.std.specs.Prelude.{nat_le}
use Rattle.std.proofs.lemmas.Bool.Decides.{nat_tests}
use Rattle.std.proofs.lemmas.Result.{err_from_is_err_and}
use Rattle.aterm.specs.Refused.{IsNotRead}
use Rattle.model.specs.declared.refusal.Refusal.{Refusal}
use Rattle.model.specs.declared.refusal.Refusal.TheVariants.{TooLarge, Memory}
use Rattle.model.specs.DerivationTexts.{derivation_of_text}
use Rattle.model.specs.Worlds.{Source}
use Rattle.realise.specs.Holdings.{Holdings}
use Rattle.handlers.specs.Handling.{IsHandledByDesk}
use Rattle.model.specs.Limits.{most_derivation_bytes}
use Rattle.model.specs.Events.{AddDerivation}
use Rattle.model.specs.Steps.{outcome}
use Rattle.handlers.specs.Sound.{desk_of}
use Rattle.handlers.proofs.DerivationLemmas.{too_large, unread_fits, unread_no_clash}
use Rattle.handlers.proofs.StepLemmas.{derivation_at_once}
use Rattle.handlers.proofs.HandlingLemmas.{left, derivation_handled}
use Rattle.handlers.proofs.derivations.add_derivation.Goals as goal

pub returns-then-bytes-gt-MOST_DERIVATION_BYTES-clause-handled : goal.returns-then-bytes-gt-MOST_DERIVATION_BYTES-clause-handled
unfolding outcome
returns-then-bytes-gt-MOST_DERIVATION_BYTES-clause-handled c table limit sound beside =
    let long = ap length c.bytes.ensures in
    let over : nat_le (length c.args.text.now) most_derivation_bytes ≡ false = grind (arith, nat_tests, long, c.if-bytes-gt-MOST_DERIVATION_BYTES.true) in
    left beside limit table c.args.desk.now (AddDerivation c.args.text.now) (Err TooLarge) sound
    (λ users observation same own. rw same (too_large (record { users = users; charge = limit }) (desk_of beside table c.args.desk.now) c.args.text.now over))
    (derivation_at_once (desk_of beside table c.args.desk.now) c.args.text.now (Err TooLarge) (λ large. refl)) (λ reply. refl) (search rules) refl
    (search rules)

-- what is not read, or for want of memory not looked at, leaves the desk
unread : (table : List Source) (d : Holdings) (text : List ℕ) (e : Refusal) → nat_le (length text) most_derivation_bytes ≡ true → IsNotRead text e
    → IsHandledByDesk table d (AddDerivation text) (Err e) d
unfolding outcome
unread table d text e within none limit sound beside =
    left beside limit table d (AddDerivation text) (Err e) sound
    (λ users observation same. rw same (unread_fits (record { users = users; charge = limit }) (desk_of beside table d) (desk_of beside table d) text e within none))
    (derivation_at_once (desk_of beside table d) text (Err e) (λ large. let no : true ≡ false = sym within ∙ large in cc))
    (λ reply. refl) (search rules) (unread_no_clash text e none) (search rules)

pub returns-in_err-derivation-clause-handled : goal.returns-in_err-derivation-clause-handled
returns-in_err-derivation-clause-handled c table =
    let p = err_from_is_err_and c.from_residual-in_err-derivation.result c.from_residual-in_err-derivation.ensures.1 in
    let text = c.args.text.now in
    let long = ap length c.bytes.ensures in
    let within : nat_le (length text) most_derivation_bytes ≡ true = grind (arith, nat_tests, long, c.if-bytes-gt-MOST_DERIVATION_BYTES.false) in
    let none : IsNotRead c.bytes-2.result.now p.0 = rw p.2 c.in_err-derivation.ensures.same in
    rw p.1 (unread table c.args.desk.now text p.0 within (rw c.bytes-2.ensures at none))

pub returns-in_err-admitted-clause-handled : goal.returns-in_err-admitted-clause-handled
returns-in_err-admitted-clause-handled c table =
    let text = c.args.text.now in
    let long = ap length c.bytes.ensures in
    let within : nat_le (length text) most_derivation_bytes ≡ true = grind (arith, nat_tests, long, c.if-bytes-gt-MOST_DERIVATION_BYTES.false) in
    let is : c.from_residual.result ≡ Err Memory = search rules in
    rw is (unread table c.args.desk.now text Memory within tt)

pub returns-in-Some-clause-handled : goal.returns-in-Some-clause-handled
returns-in-Some-clause-handled c table limit sound beside =
    let long = ap length c.bytes.ensures in
    let within : nat_le (length c.args.text.now) most_derivation_bytes ≡ true = grind (arith, nat_tests, long, c.if-bytes-gt-MOST_DERIVATION_BYTES.false) in
    let read : derivation_of_text c.args.text.now ≡ Some c.in_ok-admitted.admitted.derivation = search rules in
    derivation_handled beside limit table c.args.desk.now c.add_admitted.new.desk c.args.text.now c.in_ok-admitted.admitted.derivation c.add_admitted.result
    within read c.add_admitted.ensures sound

pub returns-clause-handled : goal.returns-clause-handled
returns-clause-handled c table limit sound beside =
    let long = ap length c.bytes.ensures in
    let within : nat_le (length c.args.text.now) most_derivation_bytes ≡ true = grind (arith, nat_tests, long, c.if-bytes-gt-MOST_DERIVATION_BYTES.false) in
    let read : derivation_of_text c.args.text.now ≡ Some c.in_ok-derivation.derivation = rw c.bytes-2.ensures at c.in_ok-derivation.ensures.same in
    derivation_handled beside limit table c.args.desk.now c.add_parsed.new.desk c.args.text.now c.in_ok-derivation.derivation c.add_parsed.result
    within read c.add_parsed.ensures sound
