use Rattle.std.proofs.Common.{◌≡◌, ◌∙◌, ap, sym, subst, arith, IfOk}
use Rattle.model.specs.Lines.{split}
use Rattle.model.specs.ParsedLines.{ParsedLine, parsed_users}
use Rattle.lines.specs.Reading.{Becomes}
use Rattle.lines.proofs.WordLemmas.{parsed_users-take}
use Rattle.lines.proofs.parsing.read_first.Goals as goal

pub returns-clause-read : goal.returns-clause-read
returns-clause-read c =
    let words = split 32 c.args.text.now in
    let e : parsed_users c.as_slice.result.now ≡ parsed_users words =
    ap parsed_users (c.as_slice.ensures.value ∙ c.in_ok-words.ensures) ∙ parsed_users-take 66 words (omega arith) in
    rw (sym c.has_empty_word.ensures ∙ c.if-has_empty_word.false)
    (subst (λ (f : ParsedLine). IfOk c.read_first_words.result (Becomes f)) e c.read_first_words.ensures.read)
