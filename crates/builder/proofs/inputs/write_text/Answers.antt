use Rattle.std.proofs.Common.{◌∷◌, [], inl, refl, sym, append-nil}
use Rattle.builder.proofs.inputs.write_text.Goals as goal

pub returns-in-Ok : goal.returns-in-Ok
returns-in-Ok g c = (c.args.text.now ∷ [], (c.args.outside.now, c.args.file.now, (refl, refl), c.in-Ok.ensures), refl)

pub returns-in-Err : goal.returns-in-Err
returns-in-Err g c =
    let text = c.args.text.now in
    ([], text, c.args.outside.now, c.args.file.now, refl, (refl, refl), (refl, inl (text, [], c.in-Err.field-0, sym (append-nil text), c.in-Err.ensures)))
