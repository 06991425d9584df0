use Rattle.std.proofs.Common.{◌≡◌, ℕ, ◌<◌, length, false}
use Rattle.board.specs.Lanes.{comes_before}
use Rattle.board.specs.Ready.{claim_of, lane_at}
use Rattle.board.proofs.ready.Ready.first.Given as goal

abbrev pub invariant-loop-place : goal.invariant-loop-place
invariant-loop-place l = record {
  within : l.best < length l.self.lanes;
  first : (other : ℕ) → other < l.place
      → comes_before (claim_of l.self (lane_at l.self.lanes other)) (claim_of l.self (lane_at l.self.lanes l.best)) ≡ false;
}
