use Rattle.std.proofs.Common.{◌≡◌, length, take}
use Rattle.board.specs.Chains.{IsFollowedWith, AreFrom, BeginsWith}
use Rattle.board.proofs.goals.Goals.follow.Given as goal

abbrev pub invariant-loop-next : goal.invariant-loop-next
invariant-loop-next l = record {
  size : l.chain.size ≡ length l.self.goals;
  from : AreFrom l.self.goals l.place l.fn.chain.places l.chain.places;
  kept : BeginsWith l.chain.places l.fn.chain.places;
  all : IsFollowedWith l.self.goals l.self.waiting (take l.next-index l.next-items) l.chain.places l.place;
}
