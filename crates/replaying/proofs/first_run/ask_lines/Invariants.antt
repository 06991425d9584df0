use Rattle.std.proofs.Common.{◌≡◌, ℕ, false, List, Some, map}
use Rattle.model.specs.Lines.{lines_of}
use Rattle.events.specs.Terms.{event_of}
use Rattle.replaying.specs.Recording.{RunSoFar}
use Rattle.replaying.proofs.first_run.ask_lines.Given as goal

-- the lines so far were asked, and the rest is left
abbrev pub invariant-loop : goal.invariant-loop
invariant-loop g l = (l.recorder.has_lost ≡ false) × ((user : List ℕ) (all : List (List ℕ)) (rest : List ℕ) → g.R.Read.remaining l.fn.input ≡ Some rest
    → RunSoFar g.J.FrontId.setup user all (lines_of rest) l.fn.notes l.fn.recorder.store (map event_of l.fn.recorder.events.items)
    → (left : List ℕ) × (g.R.Read.remaining l.input ≡ Some left)
    × RunSoFar g.J.FrontId.setup user all (lines_of left) l.notes l.recorder.store (map event_of l.recorder.events.items))
