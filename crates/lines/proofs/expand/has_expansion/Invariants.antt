use Rattle.std.proofs.Common.{◌≡◌, length}
use Rattle.std.specs.List.{list_any}
use Rattle.model.specs.Lines.{split}
use Rattle.lines.specs.Writing.{is_expansion, has_expansion}
use Rattle.lines.proofs.expand.has_expansion.Given as goal

-- no piece so far is an expansion
abbrev pub invariant-loop-piece : goal.invariant-loop-piece
invariant-loop-piece l = has_expansion l.text ≡ list_any is_expansion (split 123 l.rest)

abbrev pub decreases-loop-piece : goal.decreases-loop-piece
decreases-loop-piece l = length l.rest
