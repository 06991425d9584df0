-- What a group of paths is seen as.
use Rattle.std.specs.Prelude.{ℕ, List, [], ◌∷◌}
use Rattle.path_sets.specs.declared.group.Kept.{Kept}
use Rattle.path_sets.specs.declared.group.Kept.TheVariants.{Empty, One, Several}

abbrev pub paths_in_group : Kept → List (List ℕ)
paths_in_group Empty = []
paths_in_group (One path) = path ∷ []
paths_in_group (Several paths) = paths.items
