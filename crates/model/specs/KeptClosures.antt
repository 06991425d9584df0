-- What goals keep: from where it is, and that its closure is good. And that their derivations are known.
use Rattle.std.specs.Prelude.{◌≡◌, ℕ, Bool, true, false, is_some, List, ◌∷◌, ◌++◌, ◌⊎◌, Some, Ok}
use Rattle.model.specs.declared.refusal.Refusal.TheVariants.{UnknownDerivation}
use Rattle.model.specs.Classes.{Admission, known_at}
use Rattle.model.specs.Worlds.{Setup, World, nothing, Resolved, Status, Waiting, Planned, Building, Done, Failed, Goal, known_of}
use Rattle.model.specs.Choices as choices
use Rattle.model.specs.Closures.{IsWhole, KeepsNoReplaced}
use Rattle.model.specs.Goals.{goal_at}
use Rattle.model.specs.Resolutions.{input_classes, resolve}
use Rattle.model.specs.Events.{Plan, Event}
use Rattle.model.specs.Replies as replies
use Rattle.model.specs.Outcomes.{view_of}
use Rattle.model.specs.Steps.{reply_to, after, world_after}
use Rattle.model.specs.GivenClosures.{GiveGoodClosures}

-- a user asks that his goal of a number is planned
abbrev pub planning : List ℕ → ℕ → Event
planning u n = record { actor = u; request = Plan n }

-- it is answered that the goal is planned
abbrev pub IsPlanned : Setup → World → List ℕ → ℕ → Type 0
IsPlanned setup w u n = reply_to setup w (planning u n) ≡ replies.Status Planned

-- what the goal of a number keeps was found by the last event that planned it: it is what the goal's derivation, as its user knew it then,
-- is built from, as he saw it then; and its closure serves no class by two paths, holds an entry for each label, and keeps no replaced hash
-- part
pub record IsWellKept (setup : Setup) (events : List Event) (u : List ℕ) (n : ℕ) (r : Resolved) : Type 0 where
  pub before : List Event
  pub later : List Event
  pub cut : events ≡ before ++ planning u n ∷ later
  pub world : World
  pub reached : world ≡ world_after setup nothing before
  pub told : IsPlanned setup world u n
  pub last : (since rest : List Event) → later ≡ since ++ planning u n ∷ rest
      → IsPlanned setup (world_after setup nothing (before ++ planning u n ∷ since)) u n → ⊥
  pub goal : Goal
  pub there : goal_at n (world u).goals ≡ Some goal
  pub admission : Admission
  pub known : known_at (known_of (world u)) goal.derivation ≡ Some admission
  pub resolved : resolve (view_of setup world u) (world u).pins (known_of (world u)) admission.derivation ≡ Ok r
  pub plan : choices.Plan
  pub planned : choices.closure_plan (view_of setup world u) (world u).pins (input_classes (known_of (world u)) admission.derivation) admission.derivation.sources ≡ Ok plan
  pub whole : IsWhole r.closure
  pub gone : KeepsNoReplaced plan r.closure

-- where each closure that is given or kept while events are taken is good, what goals keep after them is
abbrev pub KeptClosuresAreGood : Type 0
KeptClosuresAreGood = (setup : Setup) (events : List Event) (u : List ℕ) (n : ℕ) (g : Goal) (r : Resolved)
    → GiveGoodClosures setup nothing events → goal_at n (world_after setup nothing events u).goals ≡ Some g → g.resolved ≡ Some r
    → IsWellKept setup events u n r

-- an event changes what a goal keeps only where it is the user's own and is answered that it planned the goal
abbrev pub OnlyPlansChangeKept : Type 0
OnlyPlansChangeKept = (setup : Setup) (w : World) (e : Event) (u : List ℕ) (n : ℕ) (old new : Goal)
    → goal_at n (w u).goals ≡ Some old → goal_at n (after setup w e u).goals ≡ Some new
    → (new.resolved ≡ old.resolved) ⊎ ((e ≡ planning u n) × IsPlanned setup w u n)

-- whether a goal is planned, or is built
abbrev pub is_planned : Status → Bool
is_planned Waiting = false
is_planned Planned = true
is_planned (Building job) = true
is_planned (Done path) = false
is_planned (Failed why) = false

-- such a goal keeps what it is built from
abbrev pub PlannedGoalsKeep : Type 0
PlannedGoalsKeep = (setup : Setup) (events : List Event) (u : List ℕ) (n : ℕ) (g : Goal)
    → goal_at n (world_after setup nothing events u).goals ≡ Some g → is_planned g.status ≡ true → is_some g.resolved ≡ true

-- a goal's derivation is on its user's desk: after any events the desk knows the derivation of each goal of its user
abbrev pub GoalsHaveDerivations : Type 0
GoalsHaveDerivations = (setup : Setup) (events : List Event) (u : List ℕ) (n : ℕ) (g : Goal)
    → let desk = world_after setup nothing events u in
    goal_at n desk.goals ≡ Some g → is_some (known_at (known_of desk) g.derivation) ≡ true

-- so a plan is never refused because the goal's derivation is not known
abbrev pub PlansFindDerivations : Type 0
PlansFindDerivations = (setup : Setup) (events : List Event) (u : List ℕ) (n : ℕ)
    → reply_to setup (world_after setup nothing events) (planning u n) ≡ replies.Refused UnknownDerivation → ⊥
