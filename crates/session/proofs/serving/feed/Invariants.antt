use Rattle.std.proofs.Common.{◌≡◌, ◌++◌, List, ℕ, Option, length}
use Rattle.model.specs.declared.mode.Mode.{Mode}
use Rattle.session.specs.Serving.{Link, Progress}
use Rattle.session.proofs.serving.feed.Given as goal

-- a front of the piece is taken, and the rest is left
abbrev pub invariant-loop-line : goal.invariant-loop-line
invariant-loop-line g l = (front : List ℕ) × (l.piece ≡ front ++ l.rest) × ((mode : Mode) (first : g.row.A.Denot) (blank : Option (List ℕ)) (input : List ℕ)
    → Progress mode (Link g.A.Answer.answers g.A.Answer.waited) first l.fn.answer blank
    (g.W.Write.contents l.fn.writer) input l.fn.ongoing.session.now l.fn.ongoing.held.items
    → Progress mode (Link g.A.Answer.answers g.A.Answer.waited) first l.answer blank
    (g.W.Write.contents l.writer) (input ++ front) l.ongoing.session.now l.ongoing.held.items)

abbrev pub decreases-loop-line : goal.decreases-loop-line
decreases-loop-line g l = length l.rest
