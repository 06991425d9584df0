use Rattle.std.proofs.Common.{◌≡◌, ◌++◌, List, ℕ, false, length}
use Rattle.session.specs.Heads.{GoesIdle}
use Rattle.session.proofs.head.take_piece.Given as goal

-- a front of the piece is taken, in which nobody is named, and the rest is left
abbrev pub invariant-loop-line : goal.invariant-loop-line
invariant-loop-line g l = (front : List ℕ) × (l.piece ≡ front ++ l.rest) × (l.session.begun ≡ false)
    × GoesIdle (g.W.Write.contents l.fn.writer) (g.W.Write.contents l.writer) l.fn.session l.session l.fn.held.items l.held.items front

abbrev pub decreases-loop-line : goal.decreases-loop-line
decreases-loop-line g l = length l.rest
