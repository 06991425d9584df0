use Rattle.std.proofs.Common.{◌≡◌, length, take}
use Rattle.board.specs.Chains.{IsBegunWith, AreOf}
use Rattle.board.proofs.goals.Goals.begin.Given as goal

abbrev pub invariant-loop-place : goal.invariant-loop-place
invariant-loop-place l = record {
  size : l.chain.size ≡ length l.self.goals;
  of : AreOf l.self.goals l.seat l.chain.places;
  all : IsBegunWith l.self.goals l.self.waiting (take l.place-index l.place-items) l.chain.places l.seat;
}
