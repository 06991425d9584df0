use Rattle.std.proofs.Common.{rules, ◌≡◌, ap, ◌∙◌}
use Rattle.std.proofs.lemmas.Result.{err_from_is_err_and}
use Rattle.std.specs.Prelude.{Ok}
use Rattle.model.specs.Derivations.{Derivation}
use Rattle.model.specs.Classes.{admit}
use Rattle.classes.specs.Admitting.{AreInputs, admission_by}
use Rattle.classes.proofs.Admitting.{all_known, refused_inputs, sources_known}
use Rattle.classes.proofs.admission_input.AdmissionInput.new.Goals as goal

pub returns-in_err-inputs : goal.returns-in_err-inputs
returns-in_err-inputs c =
    let p = err_from_is_err_and c.from_residual.result c.from_residual.ensures.1 in
    let inputs : c.deref.result.now ≡ c.args.derivation.inputs = c.deref.ensures.value ∙ ap (λ (x : Derivation). x.inputs) c.parts.ensures.parts in
    rw p.1 (refused_inputs c.args.known.now c.args.derivation c.in_err-inputs.field-0.0 p.0 p.2 (rw inputs at c.in_err-inputs.ensures))

pub returns : goal.returns
returns c =
    let known = c.args.known.now in
    let d = c.args.derivation in
    let paths : c.deref.result.now ≡ d.inputs = c.deref.ensures.value ∙ ap (λ (x : Derivation). x.inputs) c.parts.ensures.parts in
    let are : AreInputs known d.inputs c.in_ok-inputs.inputs.items = rw paths at c.in_ok-inputs.ensures in
    let admits : admit known d ≡ Ok (admission_by c.in_ok-inputs.inputs.items d) =
    c.in_ok-rank.ensures.answer ∙ ap (λ inputs. Ok (admission_by inputs d)) c.deref-2.ensures.value in
    record {
      text_is = search rules;
      derivation_is = search rules;
      known_are = are.known_are;
      sources_are = sources_known known d (admission_by c.in_ok-inputs.inputs.items d) (all_known known d.inputs c.in_ok-inputs.inputs.items are) admits;
      admits = admits;
    }
