-- What comes next of goals, by the classes of their inputs.
use Rattle.std.specs.Prelude.{◌≡◌, ℕ, List}
use Rattle.model.specs.Choices.{visible_records}
use Rattle.model.specs.Outcomes.{Observation}
use Rattle.model.specs.Outlooks.{first_lacking, lacks_or_ready}
use Rattle.jobs.specs.declared.outlook.Next.{Next}
use Rattle.jobs.specs.Outlooks.{next_of}

-- this comes next of a goal whose inputs are of these classes, for one who sees this
abbrev pub IsNextOfInputs : Observation → List (List ℕ) → Next → Type 0
IsNextOfInputs s classes next = next_of next ≡ lacks_or_ready (first_lacking (visible_records s.view) classes)
