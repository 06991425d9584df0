use Rattle.std.proofs.Common.{◌≡◌, take}
use Rattle.path_sets.proofs.path_table.PathTable.copy_in.Given as goal

abbrev pub invariant-loop-path : goal.invariant-loop-path
invariant-loop-path l = l.copy ≡ take l.path-index l.path-items
