use Rattle.std.proofs.Common.{rules, ◌≡◌, ◌++◌, inl, inr, true, codes, ap, sym, ◌∙◌}
use Rattle.std.specs.Prelude.{Err}
use Rattle.std.proofs.lemmas.Result.{err_from_is_err_and}
use Rattle.model.specs.Paths.{is_name}
use Rattle.classes.proofs.Names.{file_name_is}
use Rattle.classes.proofs.file_path.file_name.Goals as goal

pub returns-in_err-new : goal.returns-in_err-new
returns-in_err-new c =
    let p = err_from_is_err_and c.from_residual-in_err-new.result c.from_residual-in_err-new.ensures.1 in
    let name : c.deref.result.now ≡ c.name.result.now ++ codes ".drv" = search rules in
    let named : is_name c.deref.result.now ≡ true = ap is_name name ∙ file_name_is c.name.result.now c.name.ensures.named in
    rw p.1 (elim c.in_err-new.ensures.errors [
      | inl e ↦ (let wrong = sym named ∙ c.in_err-new.ensures.refused.0 (ap Err e) in cc wrong)
      | inr e ↦ p.2 ∙ e
    ])
