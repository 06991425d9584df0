use Rattle.std.proofs.Common.{rules, ◌≡◌, ◌++◌, [], inr, refl, subst}
use Rattle.std.proofs.lemmas.Result.{err_from_is_err_and}
use Rattle.model.specs.Inputs.{input_of, input_text}
use Rattle.builder.specs.Pieces.{IsUnwritten, IsWritten}
use Rattle.builder.proofs.PieceLemmas.{unwritten_before, written_both}
use Rattle.builder.proofs.inputs.write_input.Goals as goal

pub returns : goal.returns
returns g c =
    let outside = c.args.outside.now in
    let file = c.args.file.now in
    let first = c.deref.result.now in
    let second = c.deref-2.result.now in
    let text : first ++ second ≡ input_text (input_of c.args.entry.now) = search rules in
    subst (λ t. IsWritten g.O.Outside.steps outside file t c.write_text-2.result c.write_text-2.new.file c.write_text-2.new.outside) text
    (written_both g.O.Outside.steps outside file first _ _ second c.write_text-2.result _ _ c.in_ok-write_text.ensures c.write_text-2.ensures)

pub returns-in_err-write_text : goal.returns-in_err-write_text
returns-in_err-write_text g c =
    let outside = c.args.outside.now in
    let file = c.args.file.now in
    let outside' = c.write_text.new.outside in
    let file' = c.write_text.new.file in
    let first = c.deref.result.now in
    let second = c.in_ok-archive.archive.items in
    let text : first ++ second ≡ input_text (input_of c.args.entry.now) = search rules in
    let why = c.in_err-write_text.field-0.0 in
    let told = err_from_is_err_and c.from_residual-in_err-write_text.result c.from_residual-in_err-write_text.ensures.1 in
    let before = unwritten_before g.O.Outside.steps outside file first second why file' outside' c.in_err-write_text.ensures in
    rw (told.1, told.2) (subst (λ t. IsUnwritten g.O.Outside.steps outside file t why file' outside') text before)

pub returns-in_err-path : goal.returns-in_err-path
returns-in_err-path g c =
    let told = err_from_is_err_and c.from_residual.result c.from_residual.ensures.1 in
    rw (told.1, told.2) ([], input_text (input_of c.args.entry.now), c.args.outside.now, c.args.file.now, refl, (refl, refl), (c.in_err-path.ensures.err, inr (refl, refl)))

pub returns-in_err-archive : goal.returns-in_err-archive
returns-in_err-archive g c =
    let told = err_from_is_err_and c.from_residual-in_err-archive.result c.from_residual-in_err-archive.ensures.1 in
    rw (told.1, told.2) ([], input_text (input_of c.args.entry.now), c.args.outside.now, c.args.file.now, refl, (refl, refl), (c.in_err-archive.ensures.err, inr (refl, refl)))
