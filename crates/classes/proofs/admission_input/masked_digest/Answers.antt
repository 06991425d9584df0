use Rattle.std.proofs.Common.{◌≡◌, ℕ, true, List, [], length, map, arith, ap, sym, ◌∙◌}
use Rattle.std.specs.Bool.{◌==◌}
use Rattle.std.proofs.lemmas.Bool.Decides.{nat_tests}
use Rattle.std.proofs.lemmas.List.{nil_from_length}
use Rattle.sha2.specs.Sha256.{sha256}
use Rattle.model.specs.Derivations.{Derivation, derivation_text}
use Rattle.model.specs.Classes.{Admission, sorted}
use Rattle.classes.specs.Admitting.{mask_in, path_in, text_with_masks, HasInputs}
use Rattle.classes.proofs.Order.{sort_gives}
use Rattle.classes.proofs.admission_input.masked_digest.Goals as goal

-- without inputs nothing is masked
unmasked : (inputs : List Admission) (d : Derivation) (text : List ℕ) → inputs ≡ [] → HasInputs text d inputs → text ≡ text_with_masks inputs d
unmasked inputs d text none has =
    let same : d.inputs ≡ [] = sym has.paths ∙ ap (map path_in) none in
    sym has.read.text_is
    ∙ ap (λ (xs : List (List ℕ)). derivation_text (record d { inputs = xs })) (same ∙ sym (ap (λ (xs : List Admission). sorted (map mask_in xs)) none))

pub returns-then-is_empty : goal.returns-then-is_empty
returns-then-is_empty c =
    let empty : (length c.args.inputs.now == 0) ≡ true = sym c.is_empty.ensures ∙ c.if-is_empty.true in
    let short : length c.args.inputs.now ≡ 0 = grind (arith, nat_tests) in
    let none : c.args.inputs.now ≡ [] = nil_from_length c.args.inputs.now short in
    c.sha256.ensures ∙ ap sha256 (c.bytes.ensures ∙ unmasked c.args.inputs.now c.args.derivation.now c.args.text.now none c.requires)

pub returns : goal.returns
returns c =
    let d = c.args.derivation.now in
    let again : c.deref.result.now ≡ sorted (map mask_in c.args.inputs.now) =
    c.deref.ensures.value ∙ sort_gives c.in_ok-masks.masks.items c.sort.new.self.items c.sort.ensures.permutation c.in_ok-sort.ensures.sorted
    ∙ ap sorted c.in_ok-masks.ensures in
    let text : c.deref-2.result.now ≡ text_with_masks c.args.inputs.now d =
    c.deref-2.ensures.value ∙ c.in_ok-print_with_inputs.ensures ∙ ap (λ (xs : List (List ℕ)). derivation_text (record d { inputs = xs })) again in
    c.sha256-2.ensures ∙ ap sha256 text
