-- When what a goal is built from may be shared.
use Rattle.std.specs.Prelude.{◌≡◌, List}
use Rattle.model.specs.Worlds.{Resolved, Goal}
use Rattle.jobs.specs.Shared.{IsBuiltLike}

-- what a goal of these is built from equals this, where it equals it but for the trees, and the goal is planned, or the trees are equal
abbrev pub EqualsAllLike : List Goal → Resolved → Type 0
EqualsAllLike goals r = (q : Resolved) → IsBuiltLike goals r q → q ≡ r
