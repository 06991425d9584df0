use Rattle.std.proofs.Common.{rules, ◌≡◌, ◌⊎◌, inl, inr, refl, false, Err}
use Rattle.std.proofs.lemmas.Result.{err_from_is_err_and}
use Rattle.model.specs.declared.refusal.Refusal.{Refusal}
use Rattle.model.specs.declared.refusal.Refusal.TheVariants.{Memory}
use Rattle.model.specs.Derivations.{Derivation}
use Rattle.model.specs.Classes.{Known, admit}
use Rattle.model.specs.Replies.{is_clash_refusal}
use Rattle.laws.proofs.DerivationRequestLemmas.{admit_refusals}
use Rattle.handlers.proofs.DerivationLemmas.{refused_added, refused_fits}
use Rattle.handlers.proofs.derivations.add_parsed.Goals as goal

-- no refusal of an admission is a clash
admission_no_clash : (known : Known) (d : Derivation) (e : Refusal) → (e ≡ Memory) ⊎ (admit known d ≡ Err e) → is_clash_refusal e ≡ false
admission_no_clash known d e (inl h) = rw h refl
admission_no_clash known d e (inr h) = admit_refusals (λ why. is_clash_refusal why ≡ false) refl refl known d e h

pub returns-in_err-input : goal.returns-in_err-input
returns-in_err-input c =
    let p = err_from_is_err_and c.from_residual-in_err-input.result c.from_residual-in_err-input.ensures.1 in
    let known = c.args.desk.now.known in
    let why : (p.0 ≡ Memory) ⊎ (admit known c.args.derivation ≡ Err p.0) = rw (p.2, ← c.known.ensures) c.in_err-input.ensures in
    refused_added c.args.desk.now c.args.derivation c.from_residual-in_err-input.result p.0 p.1 (admission_no_clash known c.args.derivation p.0 why)
    (λ table limit sound users beside. refused_fits users beside table limit c.args.desk.now c.args.derivation p.0 (search rules) why)
