-- What is needed of the plans of closures that users are served.
use Rattle.std.specs.Prelude.{◌≡◌, ℕ, List, Ok}
use Rattle.model.specs.Worlds.{Setup, World}
use Rattle.model.specs.Choices as choices
use Rattle.model.specs.Outcomes.{view_of}
use Rattle.records.specs.Sound.{IsSoundPlan}

-- the plan of the closure of classes and sources for a user, if there is one, has sound records
abbrev pub HasSoundPlanOf : Setup → World → List ℕ → List (List ℕ) → List (List ℕ) → Type 0
HasSoundPlanOf setup w u classes sources = (p : choices.Plan) → choices.closure_plan (view_of setup w u) (w u).pins classes sources ≡ Ok p → IsSoundPlan p
