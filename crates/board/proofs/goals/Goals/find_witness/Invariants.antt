use Rattle.std.proofs.Common.{◌≡◌, ℕ, ◌≤◌, ◌-◌, length, take, true}
use Rattle.board.specs.Rows.{is_in}
use Rattle.board.specs.Chains.{IsBegun, IsFollowed, AreLedTo}
use Rattle.board.proofs.goals.Goals.find_witness.Given as goal

abbrev pub invariant-loop-passed : goal.invariant-loop-passed
invariant-loop-passed l = record {
  size : l.chain.size ≡ length l.self.goals;
  within : l.passed ≤ length l.chain.places;
  begun : IsBegun l.self.goals l.self.waiting l.chain.places l.seat;
  led : AreLedTo l.self.goals l.seat l.chain.places;
  followed : (place : ℕ) → is_in place (take l.passed l.chain.places) ≡ true
      → IsFollowed l.self.goals l.self.waiting l.chain.places place;
}

abbrev pub decreases-loop-passed : goal.decreases-loop-passed
decreases-loop-passed l = l.chain.size - l.passed
