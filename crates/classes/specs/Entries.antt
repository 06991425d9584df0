-- The entries of a desk's tables, as lists of plain data.
use Rattle.std.specs.Prelude.{◌≡◌, ℕ, List, map, All}
use Rattle.model.specs.Classes.{Admission}

-- an entry's key is its derivation's path
abbrev pub IsKeyed : List ℕ × Admission → Type 0
IsKeyed e = e.0 ≡ e.1.path

abbrev pub AreKeyed : List (List ℕ × Admission) → Type 0
AreKeyed entries = All IsKeyed entries

abbrev pub admissions_of : List (List ℕ × Admission) → List Admission
admissions_of entries = map (λ e. e.1) entries
