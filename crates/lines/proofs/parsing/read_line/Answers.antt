use Rattle.std.proofs.Common.{◌∙◌, sym, subst, Some, IfOk}
use Rattle.model.specs.ParsedLines.{ParsedLine}
use Rattle.lines.specs.Reading.{Becomes}
use Rattle.lines.proofs.FillLemmas.{parsed_line-text, fill-plain}
use Rattle.lines.proofs.parsing.read_line.Goals as goal

pub returns-in_default-clause-read : goal.returns-in_default-clause-read
returns-in_default-clause-read c =
    let told = c.args.told.now in
    let line = c.args.line.now in
    let e = parsed_line-text c.args.mode c.args.begun told line (Some line) c.if-line-gt-LONGEST_LINE.false (sym c.is_quiet.ensures ∙ c.if-is_quiet.false)
    (sym c.is_printable.ensures ∙ c.if-not-is_printable.false) (fill-plain told line c.in_default.ensures.parts) in
    subst (λ (f : ParsedLine). IfOk c.read_text.result (Becomes f)) (sym e) c.read_text.ensures.read
