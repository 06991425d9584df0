-- Reading the parts of an archive's nodes, in the steps that the readers take.
use Rattle.std.specs.Prelude.{ℕ, ◌&&◌, List, bytes_eq, Bool, if◌then◌else◌, codes, Option, Some, None}
use Rattle.model.specs.Archives.{bytes_before, is_entry_name}
use Rattle.model.specs.Results.{◌>>=◌}
use Rattle.model.specs.ArchiveReading.{string_at, name_at}

-- whether an entry comes next
unfoldable pub next_is_entry : List ℕ → Option Bool
next_is_entry bytes = do
  text ← string_at bytes
  Some (bytes_eq text.0 (codes "entry"))

-- the beginning of an entry, whose name comes after the last one
unfoldable pub next_name_at : List ℕ → List ℕ → Option (List ℕ × List ℕ)
next_name_at last bytes = do
  name ← name_at bytes
  if is_entry_name name.0 && bytes_before last name.0 then Some name else None
