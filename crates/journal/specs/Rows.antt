-- What a file of rows stands for.
use Rattle.std.specs.Prelude.{◌≡◌, ◌⊎◌, ℕ, false, List, [], ◌∷◌, ◌++◌, flat_map, if◌then◌else◌, ◌==◌, Option, Some, None}

-- no byte of it is a newline
abbrev pub IsPlain : List ℕ → Type 0
IsPlain [] = Unit {0}
IsPlain (b ∷ bytes) = ((b == 10) ≡ false) × IsPlain bytes

abbrev pub ArePlain : List (List ℕ) → Type 0
ArePlain [] = Unit {0}
ArePlain (row ∷ rows) = IsPlain row × ArePlain rows

-- the rows of some bytes, behind a row that is begun or in front of a gate: a row counts if its gate, the byte before it, is open, which is a
-- newline, and if it is whole; none counts behind the first gate that is not open
abbrev pub rows_behind : Option (List ℕ) → List ℕ → List (List ℕ)
rows_behind begun [] = []
rows_behind None (b ∷ bytes) = if b == 10 then rows_behind (Some []) bytes else []
rows_behind (Some row) (b ∷ bytes) = if b == 10 then row ∷ rows_behind None bytes else rows_behind (Some (row ++ b ∷ [])) bytes

-- the rows that a file stands for, whatever a crash made of it
abbrev pub rows_in : List ℕ → List (List ℕ)
rows_in file = rows_behind None file

-- a row behind its open gate, and its newline
abbrev pub row_text : List ℕ → List ℕ
row_text row = 10 ∷ row ++ 10 ∷ []

abbrev pub rows_text : List (List ℕ) → List ℕ
rows_text rows = flat_map row_text rows

-- rows, and then a closed gate, which begins a comment of the line format
abbrev pub at_rest : List (List ℕ) → List ℕ
at_rest rows = rows_text rows ++ 35 ∷ []

-- the lines of a file at rest: each row behind an empty line, and a comment
abbrev pub with_gates : List (List ℕ) → List (List ℕ)
with_gates rows = flat_map (λ row. [] ∷ row ∷ []) rows ++ (35 ∷ []) ∷ []

-- the file stands for the rows, with these more or without them
abbrev pub IsBeforeOrAfter : List (List ℕ) → List (List ℕ) → List ℕ → Type 0
IsBeforeOrAfter rows more file = (rows_in file ≡ rows) ⊎ (rows_in file ≡ rows ++ more)
