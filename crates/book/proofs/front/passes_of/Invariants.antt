use Rattle.std.specs.Prelude.{◌≡◌, ◌+◌, map, [], false}
use Rattle.history.specs.Callers.{below}
use Rattle.left_right.specs.Sides.{view}
use Rattle.publishing.specs.FrontNames.{name_of}
use Rattle.publishing.specs.Tied.{knower}
use Rattle.history.specs.Callers.{new_pass}
use Rattle.book.proofs.front.passes_of.Given as goal

abbrev pub invariant-loop-number : goal.invariant-loop-number
invariant-loop-number g l =
    (l.tally.spare.calls.parts + l.number ≡ l.n) × (l.tally.spare.calls.amount ≡ 0) × (l.passes.items ≡ map new_pass (below l.number))
    × (view l.writer.desk.place ≡ knower (name_of g.J.FrontId.book g.J.FrontId.setup)) × (l.writer.desk.shown ≡ l.fn.writer.desk.shown) × (l.writer.log ≡ l.fn.writer.log) × (l.writer.behind ≡ l.fn.writer.behind)
    × (l.tally.log.rows ≡ []) × (l.tally.log.next ≡ l.number) × (l.tally.log.stopped ≡ false)
    × (l.tally.spare.stops.parts + l.number ≡ l.n) × (l.tally.spare.stops.amount ≡ 0)
