-- A file that is read in pieces.
use Rattle.std.specs.Prelude.{◌≡◌, ◌≤◌, ℕ, List, length, take, drop}
use Rattle.journal.specs.LogFile.{Only}
use Rattle.journal.specs.Rows.{rows_in, rows_text}
use Rattle.journal.specs.Windows.{at_hand}
use Rattle.journal.specs.declared.pieces.Pieces.{Pieces}
use Rattle.journal.specs.declared.reading.Reading.{Reading}

-- what stands in the file from the place on
abbrev pub rest_of : {D : Type 0} → (D → List ℕ) → Pieces D → List ℕ
rest_of seen pieces = drop pieces.window.place (seen pieces.file)

-- the bytes at hand are those of the file from the place on
abbrev pub IsAhead : {D : Type 0} → (D → List ℕ) → Pieces D → Type 0
IsAhead seen pieces = at_hand pieces.window ≡ take (length (at_hand pieces.window)) (rest_of seen pieces)

-- the rows that were read
abbrev pub rows_read : {D : Type 0} → (D → List ℕ) → Reading D → List (List ℕ)
rows_read seen reading = rows_in (take reading.end (seen reading.pieces.file))

-- the rows that are left
abbrev pub rows_left : {D : Type 0} → (D → List ℕ) → Reading D → List (List ℕ)
rows_left seen reading = rows_in (drop reading.end (seen reading.pieces.file))

-- what was read is whole rows; all of the file is on the disk
pub record HasRead {D : Type 0} (seen : D → List ℕ) (may_leave : D → List ℕ → Type 0) (reading : Reading D) : Type 0 where
  pub front : take reading.end (seen reading.pieces.file) ≡ rows_text (rows_read seen reading)
  pub within : reading.end ≤ length (seen reading.pieces.file)
  pub durable : Only (seen reading.pieces.file) (may_leave reading.pieces.file)

-- the next byte is the gate of the next row
pub record IsAtGate {D : Type 0} (seen : D → List ℕ) (may_leave : D → List ℕ → Type 0) (reading : Reading D) : Type 0 where
  pub has_read : HasRead seen may_leave reading
  pub place : reading.pieces.window.place ≡ reading.end
  pub ahead : IsAhead seen reading.pieces
