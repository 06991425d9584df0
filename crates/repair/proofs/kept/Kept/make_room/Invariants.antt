use Rattle.std.proofs.Common.{◌≡◌, length}
use Rattle.repair.proofs.kept.Kept.make_room.Given as goal

abbrev pub invariant-loop-self : goal.invariant-loop-self
invariant-loop-self l = (l.self.most_bytes ≡ l.fn.self.most_bytes) × (l.self.hits ≡ l.fn.self.hits)

abbrev pub decreases-loop-self : goal.decreases-loop-self
decreases-loop-self l = length l.self.records.entries
