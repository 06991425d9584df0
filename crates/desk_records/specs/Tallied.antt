-- What counts are seen as.
use Rattle.std.specs.Prelude.{ℕ, List, [], ◌∷◌}
use Rattle.desk_records.specs.declared.counts.Kept.{Kept}
use Rattle.desk_records.specs.declared.counts.Kept.TheVariants.{Empty, One, Several}

-- the paths with how often each is counted
abbrev pub counts_in : Kept → List (List ℕ × ℕ)
counts_in Empty = []
counts_in (One path n) = (path, n) ∷ []
counts_in (Several table) = table.value.entries
