use Rattle.std.proofs.Common.{◌≡◌, ℕ, List, take}
use Rattle.std.specs.Prelude.{bytes_eq}
use Rattle.std.specs.Map.{lookup}
use Rattle.model.specs.Closures.{path_for}
use Rattle.resolving.proofs.served.paths_by_class.Given as goal

abbrev pub invariant-loop-entry : goal.invariant-loop-entry
invariant-loop-entry l = (class : List ℕ) → lookup (bytes_eq class) l.paths.entries ≡ path_for class (take l.entry-index l.entries)
