use Rattle.std.proofs.Common.{sym, ◌∙◌}
use Rattle.std.proofs.lemmas.Result.{err_from_is_err_and}
use Rattle.lines.proofs.CommandLemmas.{by_text, by_empty, by_many, by_other}
use Rattle.lines.proofs.commands.words_by.Goals as goal

pub returns-then-is_text : goal.returns-then-is_text
returns-then-is_text c =
    by_text c.args.kinds.now c.args.text.now c.in_ok-one_word.field-0.items (sym c.is_text.ensures ∙ c.if-is_text.true) c.in_ok-one_word.ensures

pub returns-in_err-one_word : goal.returns-in_err-one_word
returns-in_err-one_word c =
    let p = err_from_is_err_and c.from_residual.result c.from_residual.ensures.1 in
    rw p.1 tt

pub returns-then-has_empty_word : goal.returns-then-has_empty_word
returns-then-has_empty_word c =
    by_empty c.args.kinds.now c.args.text.now (sym c.is_text.ensures ∙ c.if-is_text.false) (sym c.has_empty_word.ensures ∙ c.if-has_empty_word.true)

pub returns-in_err-words : goal.returns-in_err-words
returns-in_err-words c =
    let p = err_from_is_err_and c.from_residual-in_err-words.result c.from_residual-in_err-words.ensures.1 in
    rw p.1 tt

pub returns-then-len-kinds : goal.returns-then-len-kinds
returns-then-len-kinds c =
    by_many c.args.kinds.now c.args.text.now c.in_ok-words.words.items (sym c.is_text.ensures ∙ c.if-is_text.false)
    (sym c.has_empty_word.ensures ∙ c.if-has_empty_word.false) c.in_ok-words.ensures (sym c.in_ok-words.words.ok.0 ∙ sym c.len.ensures ∙ c.if-len-kinds.true)

pub returns : goal.returns
returns c =
    by_other c.args.kinds.now c.args.text.now c.in_ok-words.words.items (sym c.is_text.ensures ∙ c.if-is_text.false)
    (sym c.has_empty_word.ensures ∙ c.if-has_empty_word.false) c.in_ok-words.ensures
    (λ same. c.if-len-kinds.false (c.len.ensures ∙ c.in_ok-words.words.ok.0 ∙ same))
