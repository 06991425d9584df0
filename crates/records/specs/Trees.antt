-- Paths and records with the trees of a table.
use Rattle.std.specs.Prelude.{ℕ, List, [], unwrap_or}
use Rattle.model.specs.Archives.{Tree, Link}
use Rattle.model.specs.Worlds.{Source, Record, tree_at}
use Rattle.records.specs.Recorded.{Recorded, with_tree}

-- the tree that a table has at a path
abbrev pub tree_in : List Source → List ℕ → Tree
tree_in table path = unwrap_or (tree_at path table) (Link [])

-- a path with that tree
abbrev pub source_at : List Source → List ℕ → Source
source_at table path = record { path = path; tree = tree_in table path }

-- a record with that tree
abbrev pub record_at : List Source → Recorded → Record
record_at table r = with_tree (tree_in table r.path) r
