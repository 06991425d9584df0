-- What a file of rows keeps.
use Rattle.std.specs.Prelude.{◌≡◌, ◌≤◌, ℕ, List, ◌++◌, length, take, flat_map}
use Rattle.journal.specs.LogFile.{Only}
use Rattle.journal.specs.Rows.{rows_in, rows_text, at_rest}
use Rattle.journal.specs.declared.rows.Rows.{Rows}
use Rattle.journal.specs.declared.row_file.RowFile.{RowFile}

-- the file is whole rows and a closed gate, all of it on the disk
pub record IsSettled {D : Type 0} (seen : D → List ℕ) (may_leave : D → List ℕ → Type 0) (rows : RowFile D) : Type 0 where
  pub file : seen rows.file ≡ at_rest (rows_in (seen rows.file))
  pub end : rows.end ≡ length (rows_text (rows_in (seen rows.file)))
  pub durable : Only (seen rows.file) (may_leave rows.file)

-- the rows of groups
abbrev pub rows_of : List Rows → List (List ℕ)
rows_of groups = flat_map (λ rows. rows_in rows.bytes.items) groups

-- the file stands for the rows, and then for those of the first of some groups
abbrev pub HasFirst : List (List ℕ) → List Rows → List ℕ → Type 0
HasFirst rows groups file = (n : ℕ) × (n ≤ length groups) × (rows_in file ≡ rows ++ rows_of (take n groups))
