-- By a path, the places of those whose goals are built under it.
use Rattle.std.specs.Prelude.{◌≡◌, ℕ, ◌==◌, Bool, false, ◌&&◌, ◌||◌, List, [], bytes_eq, Option, None, Some}
use Rattle.std.specs.Map.{lookup}
use Rattle.trust.specs.Trusting.{holds}
use Rattle.jobs.specs.Owned.{OwnedByAll, goals_at}
use Rattle.jobs.specs.Numbers.{numbers, is_built_under}

abbrev pub users_in : Option ℕ → ℕ
users_in None = 0
users_in (Some set) = set

-- the set of places at a path
abbrev pub users_at : List ℕ → List (List ℕ × ℕ) → ℕ
users_at path sets = users_in (lookup (bytes_eq path) sets)

-- one place is put in at one path
abbrev pub AddsPlace : List ℕ → ℕ → List (List ℕ × ℕ) → List (List ℕ × ℕ) → Type 0
AddsPlace path place old new =
    (k : List ℕ) (v : ℕ) → holds (users_at k new) v ≡ ((bytes_eq path k && (v == place)) || holds (users_at k old) v)

-- among the users at the places of a set are all who have a goal that was planned, and is built under a path
abbrev pub HasPlanners : List ℕ → (ℕ → Bool) → OwnedByAll → Type 0
HasPlanners path set all = (place : ℕ) → set place ≡ false → numbers (is_built_under path) 1 (goals_at place all) ≡ []

-- so it is with the set of each path
abbrev pub HasPlannersOfAll : List (List ℕ × ℕ) → OwnedByAll → Type 0
HasPlannersOfAll sets all = (path : List ℕ) → HasPlanners path (holds (users_at path sets)) all
