-- What a group is seen as.
use Rattle.std.specs.Prelude.{ℕ, List, [], ◌∷◌, Some, None}
use Rattle.records.specs.Recorded.{Recorded}
use Rattle.desk_records.specs.declared.group.Kept.{Kept}
use Rattle.desk_records.specs.declared.group.Kept.TheVariants.{Empty, One, Several}
use Rattle.desk_records.specs.declared.records_of.Left.{Left}
use Rattle.desk_records.specs.declared.records_of.Left.TheVariants as left

-- the records with their numbers
abbrev pub numbered_in : Kept → List (ℕ × Recorded)
numbered_in Empty = []
numbered_in (One number r) = (number, r) ∷ []
numbered_in (Several numbered) = numbered.value.entries

-- the records that are left of a group
abbrev pub records_left : Left → List Recorded
records_left (left.AtMostOne None) = []
records_left (left.AtMostOne (Some r)) = r.now ∷ []
records_left (left.Several values) = values
