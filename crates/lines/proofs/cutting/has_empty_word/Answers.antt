use Rattle.std.proofs.Common.{◌≡◌, ◌∙◌, ap, sym, ◌∷◌, ◌||◌}
use Rattle.std.specs.List.{list_any}
use Rattle.model.specs.Lines.{split}
use Rattle.model.specs.ParsedLines.{is_empty_word}
use Rattle.lines.proofs.CutLemmas.{split-one, split-more, or-false}
use Rattle.lines.proofs.cutting.has_empty_word.Goals as goal

pub returns-then-is_empty : goal.returns-then-is_empty
returns-then-is_empty c =
    let parts : split 32 c.loop-word.rest.now ≡ c.in-Some.word.now ∷ split 32 c.in-Some.others.now =
    split-more 32 c.loop-word.rest.now c.in-Some.word.now c.in-Some.others.now c.in-Some.ensures.parts in
    rw (c.loop-word.invariant, parts) (ap (λ b. b || list_any is_empty_word (split 32 c.in-Some.others.now)) (sym c.if-is_empty.true ∙ c.is_empty.ensures))

pub loop-word-preserved : goal.loop-word-preserved
loop-word-preserved c =
    let parts : split 32 c.loop-word.rest.now ≡ c.in-Some.word.now ∷ split 32 c.in-Some.others.now =
    split-more 32 c.loop-word.rest.now c.in-Some.word.now c.in-Some.others.now c.in-Some.ensures.parts in
    c.loop-word.invariant ∙ ap (list_any is_empty_word) parts ∙ ap (λ b. b || list_any is_empty_word (split 32 c.in-Some.others.now))
    (sym c.is_empty.ensures ∙ c.if-is_empty.false)

pub returns : goal.returns
returns c = c.is_empty-2.ensures ∙ sym (or-false _) ∙ sym (ap (list_any is_empty_word) (split-one 32 c.loop-word.rest.now c.in_default.ensures.parts))
    ∙ sym c.loop-word.invariant
