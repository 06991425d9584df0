-- What contracts see of an entry.
use Rattle.std.specs.Prelude.{ℕ, List}
use Rattle.model.specs.Archives.{Tree}
use Rattle.model.specs.Worlds as worlds
use Rattle.records.specs.Recorded.{with_tree}
use Rattle.records.specs.declared.desk_entry.DeskEntry.{DeskEntry}
use Rattle.records.specs.declared.desk_entry.DeskEntry.TheVariants as entry

-- the path of an entry
abbrev pub entry_path : DeskEntry → List ℕ
entry_path (entry.Source path) = path
entry_path (entry.Record r) = r.path

-- an entry with its tree
abbrev pub entry_with : Tree → DeskEntry → worlds.Entry
entry_with tree (entry.Source path) = worlds.OfSource (record { path = path; tree = tree })
entry_with tree (entry.Record r) = worlds.OfRecord (with_tree tree r)
