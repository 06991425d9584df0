use Rattle.std.proofs.Common.{◌≡◌, ◌++◌, List, ℕ, length}
use Rattle.model.specs.declared.mode.Mode.{Mode}
use Rattle.session.specs.Ahead.{Searched}
use Rattle.session.proofs.ahead.look_on.Given as goal

-- a front of the piece is searched, and the rest is left
abbrev pub invariant-loop-line : goal.invariant-loop-line
invariant-loop-line l =
    (front : List ℕ) × (l.piece ≡ front ++ l.rest) × ((mode : Mode) (input : List ℕ) → Searched mode input l.fn.session l.fn.held.items
    → Searched mode (input ++ front) l.session l.held.items)

abbrev pub decreases-loop-line : goal.decreases-loop-line
decreases-loop-line l = length l.rest
