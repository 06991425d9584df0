-- What the end of a job with an output makes of one user's desk and goals.
use Rattle.std.specs.Prelude.{◌≡◌, ℕ, ◌+◌, ◌==◌, ◌&&◌, nat_lt, nat_le, Bool, true, false, is_some, if◌then◌else◌, List, [], ◌∷◌, ◌++◌, length, map, Option, Some, None, Result, Ok, Err}
use Rattle.model.specs.declared.refusal.Refusal.{Refusal}
use Rattle.model.specs.declared.refusal.Refusal.TheVariants.{Quota}
use Rattle.model.specs.Archives.{Tree, nar}
use Rattle.model.specs.Limits.{most_records}
use Rattle.model.specs.Worlds.{Source, Status, Waiting, Done, Failed, Goal, tree_at}
use Rattle.model.specs.Goals.{goal_at, with_goal_at, in_status, is_building}
use Rattle.events.specs.declared.status.Status as jobs
use Rattle.events.specs.Statuses.{status_of}
use Rattle.records.specs.Recorded.{Recorded}
use Rattle.records.specs.declared.desk_entry.DeskEntry.TheVariants as entry
use Rattle.realise.specs.Held.{with_archives, charged_beside}
use Rattle.realise.specs.Holdings.{Holdings, paths_of, is_on, charged_more}
use Rattle.endings.specs.declared.delta.DeskDelta as Rust

-- ---- what a desk gets

-- a record with its tree
abbrev pub BuiltOutput : Type 0
BuiltOutput = Recorded × Tree

-- records, their trees with their paths, and the bytes that are charged for them
pub record DeskDelta : Type 0 where
  pub records : List Recorded
  pub trees : List (List ℕ × Tree)
  pub more : ℕ

abbrev pub delta_in : Rust.DeskDelta → DeskDelta
delta_in g = record { records = g.records.items; trees = g.trees.items; more = g.more }

abbrev pub nothing : DeskDelta
nothing = record { records = []; trees = []; more = 0 }

-- the path of a tree, with the bytes of its archive
abbrev pub archive_of_tree : List ℕ × Tree → List ℕ × ℕ
archive_of_tree t = (t.0, length (nar t.1))

-- a desk with what it gets
abbrev pub with_delta : DeskDelta → Holdings → Holdings
with_delta g d = record d {
  records = d.records ++ g.records;
  archives = with_archives (map archive_of_tree g.trees) d.archives;
  charge = d.charge + g.more;
}

-- the trees that a desk gets are those of its records
abbrev pub ArePaired : DeskDelta → Type 0
ArePaired g = map (λ t. t.0) g.trees ≡ map (λ r. r.path) g.records

-- the bytes that are charged for them are those of their archives, each path once, and nothing for one that the desk holds
abbrev pub IsCounted : Holdings → DeskDelta → Type 0
IsCounted d g = g.more ≡ charged_beside (map archive_of_tree g.trees) (paths_of d)

-- ---- one record

-- whether a desk has a record
abbrev pub is_had : Recorded → Holdings → Bool
is_had r d = is_on (entry.Record r) d

-- whether a desk may have one record more, and be charged so many bytes more
abbrev pub is_free : ℕ → ℕ → Holdings → Bool
is_free more limit d = nat_lt (length d.records) most_records && nat_le (d.charge + more) limit

-- what it is charged for a record with its tree
abbrev pub charged_with : BuiltOutput → Holdings → ℕ
charged_with o d = charged_more o.0.path (length (nar o.1)) d

-- how far a goal is on a desk once that is built for it
abbrev pub status_with : ℕ → BuiltOutput → Holdings → Status
status_with limit o d =
    if is_had o.0 d then Done o.0.path
    else if is_free (charged_with o d) limit d then Done o.0.path
    else Failed Quota

abbrev pub one_more : BuiltOutput → ℕ → DeskDelta → DeskDelta
one_more o more g = record { records = g.records ++ o.0 ∷ []; trees = g.trees ++ (o.0.path, o.1) ∷ []; more = g.more + more }

-- what a desk gets with it
abbrev pub delta_with : ℕ → Holdings → BuiltOutput → DeskDelta → DeskDelta
delta_with limit d o g =
    let now : Holdings = with_delta g d in
    if is_had o.0 now then g
    else if is_free (charged_with o now) limit now then one_more o (charged_with o now) g
    else g

-- the same of what was built for a goal, or why nothing was
abbrev pub status_of_built : ℕ → Result BuiltOutput Refusal → Holdings → Status
status_of_built limit (Ok o) d = status_with limit o d
status_of_built limit (Err why) d = Failed why

abbrev pub delta_of : ℕ → Holdings → Result BuiltOutput Refusal → DeskDelta → DeskDelta
delta_of limit d (Ok o) g = delta_with limit d o g
delta_of limit d (Err why) g = g

-- ---- all goals of a job

-- what a desk gets of what was built for goals, one after another
unfoldable pub all_delta : ℕ → Holdings → List (ℕ × Result BuiltOutput Refusal) → DeskDelta → DeskDelta
all_delta limit d [] g = g
all_delta limit d (x ∷ xs) g = all_delta limit d xs (delta_of limit d x.1 g)

-- and how far each goal is then
unfoldable pub all_statuses : ℕ → Holdings → List (ℕ × Result BuiltOutput Refusal) → DeskDelta → List (ℕ × Status)
all_statuses limit d [] g = []
all_statuses limit d (x ∷ xs) g = (x.0, status_of_built limit x.1 (with_delta g d)) ∷ all_statuses limit d xs (delta_of limit d x.1 g)

abbrev pub status_at : ℕ × jobs.Status → ℕ × Status
status_at x = (x.0, status_of x.1)

-- goals of these numbers wait
abbrev pub waiting : List ℕ → List (ℕ × Status)
waiting numbers = map (λ n. (n, Waiting)) numbers

-- ---- the goals then

abbrev pub with_status : ℕ → Status → Option Goal → List Goal → List Goal
with_status n status None goals = goals
with_status n status (Some g) goals = with_goal_at n (in_status status g) goals

-- goals in these states, by their numbers, one after another
unfoldable pub with_statuses : List (ℕ × Status) → List Goal → List Goal
with_statuses [] goals = goals
with_statuses (x ∷ xs) goals = with_statuses xs (with_status x.0 x.1 (goal_at x.0 goals) goals)

-- a user has a goal of this number, which may be so far
abbrev pub IsSettable : List Goal → ℕ × Status → Type 0
IsSettable goals x = (is_some (goal_at x.0 goals) ≡ true) × (is_building x.1 ≡ false)

-- how far the goal of a number is, which was this far, once goals are in these states
unfoldable pub last_status : ℕ → Status → List (ℕ × Status) → Status
last_status n status [] = status
last_status n status (x ∷ xs) = last_status n (if x.0 == n then x.1 else status) xs

-- ---- the table then

-- the table has a tree at its path
abbrev pub IsTreeIn : List Source → List ℕ × Tree → Type 0
IsTreeIn table t = tree_at t.0 table ≡ Some t.1
