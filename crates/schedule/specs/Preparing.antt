-- Values that are made before a step.
use Rattle.std.specs.Prelude.{◌≡◌, ℕ, Bool, true, false, List, Option, Some, None, Ok}
use Rattle.model.specs.Archives.{Tree}
use Rattle.model.specs.ArchiveReading.{tree_of_archive}
use Rattle.model.specs.Classes.{Admission, known_at}
use Rattle.model.specs.Events.{Event, Request, AddSource, AddDerivation, Offer, Take, Plan, Finish}
use Rattle.model.specs.Goals.{goal_at}
use Rattle.model.specs.Reach.{is_among}
use Rattle.model.specs.References.{candidates}
use Rattle.model.specs.Outcomes.{Observation, observation_of}
use Rattle.model.specs.Worlds.{Desk, Goal, known_of}
use Rattle.jobs.specs.Leading.{leading}
use Rattle.classes.specs.Admitting.{HasAdmission, HasMade}
use Rattle.classes.specs.declared.admissions.Admissions.{Admissions}
use Rattle.outputs.specs.Kept.{HasOutput, HasPlaced, HasNeeded}
use Rattle.outputs.specs.declared.input.Input.{Input}
use Rattle.outputs.specs.declared.settlements.Settlements.{Settlements}
use Rattle.outputs.specs.declared.sources.Sources.{Sources}
use Rattle.repair.specs.Counting.{made_in}
use Rattle.repair.specs.Prepared.{HasRepairedIf}
use Rattle.repair.specs.declared.cache.Cache.{Cache}
use Rattle.handlers.specs.Serving.{HasRepairedFor}
use Rattle.goals.specs.Planning.{HasRepairedForGoal}
use Rattle.endings.specs.Built.{HasBuilt}
use Rattle.schedule.specs.declared.state.Core.{Core}
use Rattle.schedule.specs.declared.preparing.PrepareInput.{PrepareInput}
use Rattle.schedule.specs.declared.work.Ready.{Ready}
use Rattle.schedule.specs.Standing.{world_of, setup_of}

-- the path of a source is there
abbrev pub HasPath : Request → Sources → Type 0
HasPath (AddSource name tree) sources = HasPlaced sources.placed.items name tree
HasPath request sources = Unit {0}

-- a derivation that a user with this desk adds, and which his desk admits, is there
abbrev pub HasAdmissionFor : Desk → Request → Admissions → Type 0
HasAdmissionFor d (AddDerivation text) admissions = HasAdmission (known_of d) text admissions.admitted.items
HasAdmissionFor d request admissions = Unit {0}

-- what comes of the tree that a user with this desk offers is there, and what comes of the output of a job for the goal that leads it
abbrev pub HasOutcome : Desk → List ℕ → Request → Settlements → Type 0
HasOutcome d user (Offer path tree) settlements = (a : Admission) → known_at (known_of d) path ≡ Some a
    → HasOutput settlements.settled.items a.class.path (candidates d a.derivation) a.derivation tree
HasOutcome d user (Finish n output) settlements = (g : Goal) (tree : Tree) → goal_at n d.goals ≡ Some g
    → leading (record { leader = user; number = n }) (Some g) ≡ Ok tt → tree_of_archive output ≡ Some tree
    → HasBuilt (known_of d) g tree settlements.settled.items
HasOutcome d user request settlements = Unit {0}

-- the tree that a request hands in as an output, if it does
abbrev pub output_of : Request → Option Tree
output_of (Offer path tree) = Some tree
output_of (Finish n output) = tree_of_archive output
output_of request = None

-- what comes of that tree is there, where it is to be settled by an input
abbrev pub HasInput : Request → Option Input → Settlements → Type 0
HasInput request input settlements = (tree : Tree) → output_of request ≡ Some tree → HasNeeded settlements.settled.items input tree

-- what comes of each record that is repaired for a user's request is there: for a closure that he takes, or that a goal of his is built from
abbrev pub HasRepairedAll : Observation → Request → Cache → Type 0
HasRepairedAll s (Take class) cache = HasRepairedFor s class (made_in cache.made)
HasRepairedAll s (Plan n) cache = HasRepairedForGoal s n (made_in cache.made)
HasRepairedAll s request cache = Unit {0}

-- all that a user sees in the world that a core stands for
abbrev pub seen_by : Core → List ℕ → Observation
seen_by core user = observation_of (setup_of core) (world_of core) user

-- whether what a request needs to be made hangs on what there is: on a desk, or on what its user sees
abbrev pub hangs_on_state : Request → Bool
hangs_on_state (AddDerivation text) = true
hangs_on_state (Offer path tree) = true
hangs_on_state (Take class) = true
hangs_on_state (Plan n) = true
hangs_on_state (Finish n output) = true
hangs_on_state request = false

-- what a request needs was made
pub record IsMade (need : PrepareInput) (request : Request) (ready : Ready) : Type 0 where
  pub path : HasPath request ready.work.sources
  pub admission : HasMade ready.work.admissions.admitted.items need.admission
  pub output : HasInput request need.input ready.work.settlements
  pub repaired : HasRepairedIf need.plan (made_in ready.work.cache.made)

-- the values that an event needs are there, which a user of the run asks in the world that the core stands for
pub record IsPrepared (core : Core) (event : Event) (ready : Ready) : Type 0 where
  pub path : HasPath event.request ready.work.sources
  pub admission : is_among event.actor (setup_of core).users ≡ true → HasAdmissionFor (world_of core event.actor) event.request ready.work.admissions
  pub outcome : is_among event.actor (setup_of core).users ≡ true → HasOutcome (world_of core event.actor) event.actor event.request ready.work.settlements
  pub repaired : is_among event.actor (setup_of core).users ≡ true → HasRepairedAll (seen_by core event.actor) event.request ready.work.cache

-- the values that an event needs are there, whatever its user has and sees
pub record IsPreparedAnywhere (event : Event) (ready : Ready) : Type 0 where
  pub path : HasPath event.request ready.work.sources
  pub admission : (d : Desk) → HasAdmissionFor d event.request ready.work.admissions
  pub outcome : (d : Desk) → HasOutcome d event.actor event.request ready.work.settlements
  pub repaired : (s : Observation) → HasRepairedAll s event.request ready.work.cache
