use Rattle.std.proofs.Common.{◌≡◌, ◌++◌, take}
use Rattle.std.specs.Vec.Iter.{into_iter_items}
use Rattle.path_sets.proofs.path_table.PathTable.add_all.Given as goal

abbrev pub invariant-loop-path : goal.invariant-loop-path
invariant-loop-path l = record {
  all : l.self ++ into_iter_items l.path-iterator ≡ l.initial.self ++ l.fn.paths.items;
  before : take l.count l.self ≡ l.initial.self;
}
