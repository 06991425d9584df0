use Rattle.std.proofs.Common.{◌≤◌, ◌-◌, ℕ, List, [], take, length}
use Rattle.choose.specs.Visible.{choose_in}
use Rattle.choose.specs.Gathering.{IsGathered}
use Rattle.choose.proofs.planning.gather_below.Given as goal

abbrev pub invariant-loop-next : goal.invariant-loop-next
invariant-loop-next l = record {
  within : l.next ≤ length l.gathering.records;
  gathered : (classes sources A P : List (List ℕ)) → IsGathered l.view (choose_in l.view l.pins) classes sources A P [] l.fn.gathering
      → IsGathered l.view (choose_in l.view l.pins) classes sources A P (take l.next l.gathering.records) l.gathering;
}

abbrev pub decreases-loop-next : goal.decreases-loop-next
decreases-loop-next l = 1025 - l.next
