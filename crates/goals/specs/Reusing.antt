-- What was built already, as it is found among the goals and on the desks of a run.
use Rattle.std.specs.Prelude.{◌≡◌, ℕ, true, Bool, ◌&&◌, if◌then◌else◌, List, [], length, filter, flat_map, option_map, bytes_eq, Option, Some, None}
use Rattle.std.specs.List.{list_any, list_all}
use Rattle.model.specs.Archives.{bytes_before}
use Rattle.model.specs.Classes.{Class, Admission, Known, known_at}
use Rattle.model.specs.Worlds.{Source, Setup, World, Label, same_label, Record, Resolved, Goal, known_of, are_users, tree_at}
use Rattle.model.specs.Goals.{goal_at}
use Rattle.model.specs.FinishedBuilds.{finished_build, for_class}
use Rattle.model.specs.Outcomes.{view_of}
use Rattle.laws.proofs.MemberLemmas.{In}
use Rattle.trust.specs.Naming.{place_of, IsWithin}
use Rattle.records.specs.Recorded.{Recorded}
use Rattle.records.specs.Trees.{record_at}
use Rattle.realise.specs.Holdings.{Holdings, records_of}
use Rattle.jobs.specs.Statuses.{path_in}
use Rattle.jobs.specs.Joining.{same_as}
use Rattle.jobs.specs.Numbers.{numbers, is_done_under}
use Rattle.handlers.specs.Parts.{Parts, parts, world_in}
use Rattle.handlers.specs.Viewing.{desk_at}
use Rattle.handlers.specs.Supported.{goals_of}
use Rattle.handlers.specs.Taking.{IsLabelledBy}

-- ---- the records of one desk

abbrev pub path_before : Recorded → Recorded → Bool
path_before q r = bytes_before q.path r.path

-- whether a record is at a path, and each of its labels is among these
abbrev pub is_found_at : List Label → List ℕ → Recorded → Bool
is_found_at labels path r = bytes_eq r.path path && list_all (λ l. list_any (same_label l) labels) r.labels

-- the path by which a goal is done, if it is built from that
abbrev pub done_path : Resolved → Goal → Option (List ℕ)
done_path r g = if same_as r g.resolved then path_in g.status else None

-- the records of a desk at a path, of the class of a derivation that it knows
abbrev pub found_at : List Label → Holdings → Option Admission → Option (List ℕ) → List Recorded
found_at labels d known None = []
found_at labels d None (Some path) = []
found_at labels d (Some a) (Some path) = filter (is_found_at labels path) (records_of a.class.path d)

-- what was built for a goal
abbrev pub found_by : Resolved → List Label → Holdings → Goal → List Recorded
found_by r labels d g = found_at labels d (known_at d.known g.derivation) (done_path r g)

abbrev pub found_if : Resolved → List Label → Holdings → Option Goal → List Recorded
found_if r labels d None = []
found_if r labels d (Some g) = found_by r labels d g

-- for those of a user's goals that have these numbers
abbrev pub found_among : Resolved → List Label → Holdings → List Goal → List ℕ → List Recorded
found_among r labels d goals ns = flat_map (λ n. found_if r labels d (goal_at n goals)) ns

-- for those that are done and were built under the same path
abbrev pub found_on : Resolved → List Label → Holdings → List Goal → List Recorded
found_on r labels d goals = found_among r labels d goals (numbers (is_done_under r.scratch) 1 goals)

-- for those of the users at these places
abbrev pub found_in : Resolved → List Label → List Holdings → List (List Goal) → List ℕ → List Recorded
found_in r labels desks goals places = flat_map (λ p. found_on r labels (desk_at desks p) (goals_of goals p)) places

-- ---- what the user at a place uses again

-- what is said of the user at a place, among users who have these goals, whoever he is
abbrev pub AmongGoals : (ℕ → ℕ → Bool) → List (List Goal) → List Source → List Holdings → ℕ → (Setup → World → List ℕ → Type 0) → Type 0
AmongGoals trust goals table desks place P = (users : List (List ℕ)) (limit : ℕ) (actor : List ℕ)
    → are_users users ≡ true → place_of users actor ≡ Some place → length desks ≡ length users → IsWithin (length users) trust
    → let old = parts users limit trust goals table desks in P old.setup (world_in old) actor

-- this record is what was built from that, of all that the user at a place sees
abbrev pub IsFinishedBuild : (ℕ → ℕ → Bool) → List (List Goal) → List Holdings → ℕ → Resolved → Option Recorded → Type 0
IsFinishedBuild trust goals desks place r built = (table : List Source) → AmongGoals trust goals table desks place
    (λ setup w u. finished_build (view_of setup w u) r ≡ option_map (record_at table) built)

-- a record is on one of these desks, and each of its labels is among these
pub record IsHeldWith (labels : List Label) (desks : List Holdings) (r : Recorded) : Type 0 where
  pub desk : Holdings
  pub of_run : In desk desks
  pub there : In r desk.records
  pub labelled : list_all (λ l. list_any (same_label l) labels) r.labels ≡ true

abbrev pub IsHeldAmong : List Label → List Holdings → Option Recorded → Type 0
IsHeldAmong labels desks built = (r : Recorded) → built ≡ Some r → IsHeldWith labels desks r

-- the class of the derivation of a goal, if there is one and it is known
abbrev pub class_if : Option Admission → Option Class
class_if known = option_map (λ a. a.class) known

abbrev pub class_for : Known → Option Goal → Option Class
class_for known None = None
class_for known (Some g) = class_if (known_at known g.derivation)

-- what was built, for the class of one who knows the derivation
abbrev pub used_again : Option Admission → Option Record → Option Record
used_again None built = None
used_again (Some a) None = None
used_again (Some a) (Some r) = Some (for_class a.class r)

-- this is what the goal of a number of the user at a place uses again, if anything is: its tree is in the table, and its labels are those
-- of the closure that the goal is built from
pub record IsUsedAgain (trust : ℕ → ℕ → Bool) (goals : List (List Goal)) (table : List Source) (desks : List Holdings) (place n : ℕ) (r : Resolved)
    (built : Option Record) : Type 0 where
  pub is : (g : Goal) → goal_at n (goals_of goals place) ≡ Some g → AmongGoals trust goals table desks place
      (λ setup w u. built ≡ used_again (known_at (known_of (w u)) g.derivation) (finished_build (view_of setup w u) r))
  pub stored : (q : Record) → built ≡ Some q → tree_at q.path table ≡ Some q.tree
  pub labelled : (q : Record) → built ≡ Some q → IsLabelledBy r.closure q

-- so it is among these parts
abbrev pub UsesAgain : Parts → ℕ → ℕ → Resolved → Option Record → Type 0
UsesAgain p place n r built = IsUsedAgain p.trust p.goals p.table p.desks place n r built
