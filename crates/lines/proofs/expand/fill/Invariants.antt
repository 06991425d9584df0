use Rattle.std.proofs.Common.{◌≡◌, length, Some}
use Rattle.model.specs.Lines.{split, joined_texts, pieces_text, filled}
use Rattle.lines.proofs.expand.fill.Given as goal

-- the text so far, and then that of the pieces left
abbrev pub invariant-loop-piece : goal.invariant-loop-piece
invariant-loop-piece l = joined_texts (Some l.text.items) (pieces_text l.told (split 123 l.rest)) ≡ filled l.told l.line

abbrev pub decreases-loop-piece : goal.decreases-loop-piece
decreases-loop-piece l = length l.rest
