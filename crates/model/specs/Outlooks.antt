-- How goals may go on: what comes next of a goal, as its user sees it.
use Rattle.std.specs.Prelude.{◌≡◌, ◌≢◌, ℕ, Bool, true, not, if◌then◌else◌, List, find, option_map, Option, Some, None, Result, Ok, Err}
use Rattle.std.specs.List.{list_any}
use Rattle.model.specs.declared.refusal.Refusal.{Refusal}
use Rattle.model.specs.declared.refusal.Refusal.TheVariants.{UnknownUser, UnknownGoal, NotRealised}
use Rattle.model.specs.Results.{then_do, ok_or}
use Rattle.model.specs.Derivations.{Derivation}
use Rattle.model.specs.Classes.{Admission, known_at}
use Rattle.model.specs.Worlds.{Setup, is_user, World, Record, Job, Status, Waiting, Planned, Building, Done, Failed, Goal, known_of}
use Rattle.model.specs.Choices.{is_of, visible_records, closure_plan}
use Rattle.model.specs.Goals.{goal_at, as_seen, is_waiting}
use Rattle.model.specs.Resolutions.{input_classes}
use Rattle.model.specs.Outcomes.{Observation, observation_of}
use Rattle.model.specs.GoalRequests.{plan}

-- what comes next of a goal: nothing more by itself; it may be planned or, where it is planned, started; it is built in a job; or it
-- waits for a class
pub data Next : Type 0 where
  Over : Next
  Ready : Next
  Built : (job : Job) → Next
  Lacks : (class : List ℕ) → Next

-- how a goal may go on: the class of what it builds, if its derivation is known; what comes next; and whom its user reaches
pub record Outlook : Type 0 where
  pub class : Option (List ℕ)
  pub next : Next
  pub reach : List ℕ → Bool

-- whether one of these records is of a class
abbrev pub is_realised : List Record → List ℕ → Bool
is_realised records class = list_any (is_of class) records

-- the first of some classes of which there is none of these records
abbrev pub first_lacking : List Record → List (List ℕ) → Option (List ℕ)
first_lacking records classes = find (λ c. not (is_realised records c)) classes

abbrev pub lacks_or_ready : Option (List ℕ) → Next
lacks_or_ready None = Ready
lacks_or_ready (Some class) = Lacks class

-- what comes next of a goal that waits: it lacks the first class among those of its derivation's inputs of which its user sees no record.
-- Where the derivation is not known, it cannot be planned
abbrev pub next_of_waiting : Observation → Option Admission → Next
next_of_waiting s None = Over
next_of_waiting s (Some a) = lacks_or_ready (first_lacking (visible_records s.view) (input_classes (known_of s.desk) a.derivation))

-- what comes next of a goal of this derivation that is so far, as its user sees it
abbrev pub next_of : Observation → Option Admission → Status → Next
next_of s known Waiting = next_of_waiting s known
next_of s known Planned = Ready
next_of s known (Building job) = Built job
next_of s known (Done path) = Over
next_of s known (Failed why) = Over

abbrev pub outlook_with : Observation → Goal → Option Admission → Outlook
outlook_with s g known = record {
  class = option_map (λ a. a.class.path) known;
  next = next_of s known (as_seen s.reach g.status);
  reach = s.reach;
}

abbrev pub outlook_of : Observation → Goal → Outlook
outlook_of s g = outlook_with s g (known_at (known_of s.desk) g.derivation)

-- how the goal of a number may go on, for one who sees this
abbrev pub outlook : Observation → ℕ → Result Outlook Refusal
outlook s n = then_do (ok_or UnknownGoal (goal_at n s.desk.goals)) (λ g. Ok (outlook_of s g))

-- how a user's goal of a number may go on in a world, or why there is no such goal
abbrev pub outlook_for : Setup → World → List ℕ → ℕ → Result Outlook Refusal
outlook_for setup w u n = if is_user setup u then outlook (observation_of setup w u) n else Err UnknownUser

-- ---- what it says of planning

-- what a derivation needs is planned, or refused for something else than a class of its inputs of which no record is seen
abbrev pub HasInputs : Observation → Derivation → Type 0
HasInputs s d = closure_plan s.view s.desk.pins (input_classes (known_of s.desk) d) d.sources ≢ Err NotRealised

-- where a goal lacks a class, its plan is refused with 51; where it waits and is ready, its derivation has its inputs
pub record ForetellsPlan (s : Observation) (n : ℕ) (o : Outlook) : Type 0 where
  pub lacks : (class : List ℕ) → o.next ≡ Lacks class → plan s n ≡ Err NotRealised
  pub ready : o.next ≡ Ready → (g : Goal) (a : Admission)
      → goal_at n s.desk.goals ≡ Some g → is_waiting (as_seen s.reach g.status) ≡ true → known_at (known_of s.desk) g.derivation ≡ Some a
      → HasInputs s a.derivation

abbrev pub OutlooksForetellPlans : Type 0
OutlooksForetellPlans = (s : Observation) (n : ℕ) (o : Outlook) → outlook s n ≡ Ok o → ForetellsPlan s n o
