use Rattle.std.proofs.Common.{◌≡◌, ◌∙◌, ap, sym, ◌∷◌, ◌||◌, drop}
use Rattle.std.specs.List.{list_any}
use Rattle.model.specs.Lines.{split}
use Rattle.lines.specs.Writing.{is_expansion}
use Rattle.lines.proofs.CutLemmas.{split-one, split-more, or-false}
use Rattle.lines.proofs.expand.has_expansion.Goals as goal

pub returns-in_default : goal.returns-in_default
returns-in_default c = sym (ap (λ ps. list_any is_expansion (drop 1 ps)) (split-one 123 c.args.text.now c.in_default.ensures.parts))

pub loop-piece-init : goal.loop-piece-init
loop-piece-init c = ap (λ ps. list_any is_expansion (drop 1 ps)) (split-more 123 c.args.text.now _ c.in-Some.pieces.now c.in-Some.ensures.parts)

pub returns-then-is_expansion : goal.returns-then-is_expansion
returns-then-is_expansion c =
    let parts : split 123 c.loop-piece.rest.now ≡ c.in-Some-cut.piece.now ∷ split 123 c.in-Some-cut.others.now =
    split-more 123 c.loop-piece.rest.now c.in-Some-cut.piece.now c.in-Some-cut.others.now c.in-Some-cut.ensures.parts in
    rw (c.loop-piece.invariant, parts) (ap (λ b. b || list_any is_expansion (split 123 c.in-Some-cut.others.now)) (sym c.if-is_expansion.true ∙ c.is_expansion.ensures))

pub loop-piece-preserved : goal.loop-piece-preserved
loop-piece-preserved c =
    let parts : split 123 c.loop-piece.rest.now ≡ c.in-Some-cut.piece.now ∷ split 123 c.in-Some-cut.others.now =
    split-more 123 c.loop-piece.rest.now c.in-Some-cut.piece.now c.in-Some-cut.others.now c.in-Some-cut.ensures.parts in
    c.loop-piece.invariant ∙ ap (list_any is_expansion) parts ∙ ap (λ b. b || list_any is_expansion (split 123 c.in-Some-cut.others.now))
    (sym c.is_expansion.ensures ∙ c.if-is_expansion.false)

pub returns : goal.returns
returns c = c.is_expansion-2.ensures ∙ sym (or-false _) ∙ sym (ap (list_any is_expansion) (split-one 123 c.loop-piece.rest.now c.in_default-cut.ensures.parts))
    ∙ sym c.loop-piece.invariant
