use Rattle.std.proofs.Common.{◌≡◌, ◌≤◌, length}
use Rattle.std.specs.Vec.Iter.{into_iter_items}
use Rattle.realise.specs.Held.{with_archives}
use Rattle.realise.proofs.holding.Holding.put_all_reserved.Given as goal

abbrev pub invariant-loop-path : goal.invariant-loop-path
invariant-loop-path l = record {
  all : with_archives (into_iter_items l.path-iterator) l.self.archives ≡ with_archives l.fn.added.items l.initial.self.archives;
  room : length (into_iter_items l.path-iterator) ≤ l.self.room;
}
