-- What a request stores.
use Rattle.std.specs.Prelude.{◌≡◌, ℕ, List, [], ◌∷◌, ◌++◌, map, flat_map, filter, drop, length, Option, Some, None, Result, Ok, Err}
use Rattle.model.specs.declared.refusal.Refusal.{Refusal}
use Rattle.model.specs.declared.refusal.RewriteFault.{RewriteFault}
use Rattle.model.specs.Archives.{Tree}
use Rattle.model.specs.Classes.{Admission, Known, known_at}
use Rattle.model.specs.Settling.{Settled}
use Rattle.model.specs.Worlds.{Source, Record, Setup, Desk, World, known_of, Entry, path_of_entry, Resolved, Job, Goal, tree_of_record}
use Rattle.model.specs.References.{candidates}
use Rattle.model.specs.Events.{Request, AddSource, Offer, Take, Plan, Finish, Event}
use Rattle.model.specs.Outcomes.{Observation, observation_of, reaches}
use Rattle.model.specs.Goals.{goal_at, members}
use Rattle.model.specs.Endings.{built_record}
use Rattle.model.specs.GoalRequests.{resolve_for}
use Rattle.model.specs.Steps.{after}
use Rattle.model.specs.SourceRequests.{source_named}
use Rattle.model.specs.OfferRequests.{output_settled}
use Rattle.model.specs.Closures.{tree_of_entry}
use Rattle.model.specs.ClosureRequests.{closure_for}
use Rattle.store.specs.Stored.{put_all, IsTaken}

abbrev pub settled_source : Result Settled RewriteFault → List Source
settled_source (Ok s) = record { path = s.path; tree = s.tree } ∷ []
settled_source (Err why) = []

abbrev pub output_stored : Desk → Tree → Option Admission → List Source
output_stored d tree None = []
output_stored d tree (Some a) = settled_source (output_settled (candidates d a.derivation) a tree)

-- the tree of an entry, with its path
abbrev pub source_of_entry : Entry → Source
source_of_entry e = record { path = path_of_entry e; tree = tree_of_entry e }

abbrev pub taken_sources : Result (List Entry) Refusal → List Source
taken_sources (Ok entries) = map source_of_entry entries
taken_sources (Err why) = []

-- those of the closure that a goal is to be built from
abbrev pub resolved_sources : Result Resolved Refusal → List Source
resolved_sources (Ok r) = map source_of_entry r.closure
resolved_sources (Err why) = []

abbrev pub admitted_sources : Observation → Option Admission → List Source
admitted_sources s None = []
admitted_sources s (Some a) = resolved_sources (resolve_for s a.derivation)

abbrev pub planned_sources : Observation → Option Goal → List Source
planned_sources s None = []
planned_sources s (Some g) = admitted_sources s (known_at (known_of s.desk) g.derivation)

-- the trees of the records that a desk got
abbrev pub gained : Desk → Desk → List Source
gained old new = map tree_of_record (drop (length old.records) new.records)

-- those that the desks of all got by an event
abbrev pub gained_sources : Setup → World → Event → List Source
gained_sources setup w e = flat_map (λ x. gained (w x) (after setup w e x)) setup.users

-- the trees, with their paths, that a request of a user puts into the table one after another, if it is not refused
abbrev pub stored_by : Setup → World → List ℕ → Request → List Source
stored_by setup w u (AddSource name tree) = source_named name tree ∷ []
stored_by setup w u (Offer path tree) = output_stored (w u) tree (known_at (known_of (w u)) path)
stored_by setup w u (Take class) = taken_sources (closure_for (observation_of setup w u) class)
stored_by setup w u (Plan number) = planned_sources (observation_of setup w u) (goal_at number (w u).goals)
stored_by setup w u (Finish number bytes) = gained_sources setup w (record { actor = u; request = Finish number bytes })
stored_by setup w u request = []

-- the tree that is settled for a goal of which this is built, with its path
abbrev pub record_tried : Result Record Refusal → List Source
record_tried (Ok r) = tree_of_record r ∷ []
record_tried (Err why) = []

abbrev pub goal_tried : Known → List ℕ → Option Goal → List Source
goal_tried known bytes None = []
goal_tried known bytes (Some g) = record_tried (built_record known g bytes)

-- those for the goals of a desk that are built in a job
abbrev pub desk_tried : Job → List ℕ → Desk → List Source
desk_tried job bytes d = flat_map (λ n. goal_tried (known_of d) bytes (goal_at n d.goals)) (members job 1 d.goals)

-- and for all of them whose users reach the leader
abbrev pub job_tried : Setup → World → Job → List ℕ → List Source
job_tried setup w job bytes = flat_map (λ x. desk_tried job bytes (w x)) (filter (λ x. reaches setup w x job.leader) setup.users)

-- the trees, with their paths, that a request of a user is to put into the table: of an output all that are settled, whether there is
-- room for them or not
abbrev pub tried_by : Setup → World → List ℕ → Request → List Source
tried_by setup w u (Finish number bytes) = job_tried setup w (record { leader = u; number = number }) bytes
tried_by setup w u request = stored_by setup w u request

-- one of these trees, put one after another, comes to a path where another is by then
pub record AreTaken (sources more : List Source) : Type 0 where
  pub before : List Source
  pub source : Source
  pub behind : List Source
  pub parts : more ≡ before ++ source ∷ behind
  pub taken : IsTaken (put_all before sources) source.path source.tree

-- the request of a user is to put a tree where another is
abbrev pub IsTakenFor : List Source → Setup → World → List ℕ → Request → Type 0
IsTakenFor sources setup w u request = AreTaken sources (tried_by setup w u request)
