use Rattle.std.proofs.Common.{◌≡◌, ◌++◌, drop, map}
use Rattle.handlers.specs.Taking.{tree_with_path}
use Rattle.handlers.proofs.copying.trees_of.Given as goal

abbrev pub invariant-loop-entry : goal.invariant-loop-entry
invariant-loop-entry l = l.trees.items ++ map tree_with_path (drop l.entry-index l.entries) ≡ map tree_with_path l.entries
