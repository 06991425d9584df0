use Rattle.std.proofs.Common.{◌≡◌, ℕ, ◌<◌, nat_lt, length, if◌then◌else◌}
use Rattle.board.specs.Ready.{lane_at, left_by}
use Rattle.board.proofs.ready.leave_all.Given as goal

abbrev pub invariant-loop-place : goal.invariant-loop-place
invariant-loop-place l = record {
  as_many : length l.lanes.items ≡ length l.fn.lanes.items;
  each : (at : ℕ) → at < length l.fn.lanes.items
      → lane_at l.lanes.items at ≡ (if nat_lt at l.place then left_by l.seat (lane_at l.fn.lanes.items at) else lane_at l.fn.lanes.items at);
}
