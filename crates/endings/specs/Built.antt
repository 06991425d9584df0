-- What is built for a goal: the output of its job, settled for its derivation.
use Rattle.std.specs.Prelude.{◌≡◌, ℕ, true, List, [], ◌∷◌, ◌++◌, All, Option, Some, None, Result, Ok, Err}
use Rattle.model.specs.declared.refusal.Refusal.{Refusal}
use Rattle.model.specs.Archives.{Tree, IsTree}
use Rattle.model.specs.Paths.{IsPath}
use Rattle.model.specs.Occurrences.{IsHashPart}
use Rattle.model.specs.Settling as settling
use Rattle.model.specs.Settling.{hash_part_in}
use Rattle.model.specs.declared.refusal.Refusal.TheVariants.{BadOutput}
use Rattle.model.specs.Worlds.{Source, Label, Record, Resolved, Goal, tree_at}
use Rattle.model.specs.Goals.{goal_at}
use Rattle.model.specs.Classes.{Admission, Known, known_at}
use Rattle.model.specs.References.{paths_of_labels}
use Rattle.model.specs.Outputs.{settled_under, record_for}
use Rattle.model.specs.Endings.{labels_from, label_of_entry, output_record}
use Rattle.model.specs.Results.{then_do, ok_or, unless_rewrite_refused}
use Rattle.records.specs.Recorded.{Recorded, with_tree}
use Rattle.realise.specs.Holdings.{Holdings, has_labelled, IsClosedWith}
use Rattle.outputs.specs.Kept.{HasOutput}
use Rattle.outputs.specs.declared.settlement.Settlement.{Settlement}

-- ---- what is built

-- the record that is built, with its tree, or why there is none
abbrev pub built_of : Result (Recorded × Tree) Refusal → Result Record Refusal
built_of (Ok b) = Ok (with_tree b.1 b.0)
built_of (Err why) = Err why

-- the record of an output of a derivation that was built under a path and may refer to these
abbrev pub record_under : List ℕ → List Label → Admission → Tree → Result Record Refusal
record_under path labels a tree = then_do (unless_rewrite_refused (settled_under path labels a tree)) (λ settled. Ok (record_for labels a settled))

-- it is the record of what came of settling a tree
abbrev pub IsBuiltBy : List Label → Admission → Result settling.Settled Refusal → Result (Recorded × Tree) Refusal → Type 0
IsBuiltBy labels a settled built = built_of built ≡ then_do settled (λ s. Ok (record_for labels a s))

-- ---- on a desk

-- what a label names is on a desk
abbrev pub IsOn : Holdings → Label → Type 0
IsOn d l = has_labelled d l.path l.class ≡ true

-- what a goal is built from is on a desk
abbrev pub IsBuiltOn : Holdings → Option Resolved → Type 0
IsBuiltOn d None = Unit {0}
IsBuiltOn d (Some r) = All (λ e. IsOn d (label_of_entry e)) r.closure

-- what the labels of the record that is built name is on a desk
abbrev pub IsClosedBuilt : Holdings → Result (Recorded × Tree) Refusal → Type 0
IsClosedBuilt d (Ok b) = IsClosedWith d b.0
IsClosedBuilt d (Err why) = Unit {0}

-- ---- what is hashed

-- a tree and what it is settled by are sound where it is settled for what a goal is built from
abbrev pub HasInput : Tree → Option Resolved → Result (Recorded × Tree) Refusal → Type 0
HasInput tree None built = Unit {0}
HasInput tree (Some r) (Err why) = Unit {0}
HasInput tree (Some r) (Ok b) = IsTree tree × (IsHashPart (hash_part_in r.scratch) × All IsPath (paths_of_labels (labels_from r)))

abbrev pub HasInputFrom : Option Tree → Option Resolved → Result (Recorded × Tree) Refusal → Type 0
HasInputFrom None resolved built = Unit {0}
HasInputFrom (Some tree) resolved built = HasInput tree resolved built

-- the same of a goal, if there is one
abbrev pub HasInputOf : Option Tree → Option Goal → Result (Recorded × Tree) Refusal → Type 0
HasInputOf output None built = Unit {0}
HasInputOf output (Some g) built = HasInputFrom output g.resolved built

-- and of each of what was built for goals, by their numbers
abbrev pub HaveInputs : Option Tree → List Goal → List (ℕ × Result (Recorded × Tree) Refusal) → Type 0
HaveInputs output goals built = All (λ x. HasInputOf output (goal_at x.0 goals) x.1) built

-- ---- for the goals of a job

-- what each of the goals of these numbers is built from is on a desk
abbrev pub IsBuiltAt : Holdings → Option Goal → Type 0
IsBuiltAt d None = Unit {0}
IsBuiltAt d (Some g) = IsBuiltOn d g.resolved

abbrev pub AreBuiltOn : Holdings → List Goal → List ℕ → Type 0
AreBuiltOn d goals numbers = All (λ n. IsBuiltAt d (goal_at n goals)) numbers

-- what is built for a goal from the output of its job, if that is an archive
abbrev pub built_output : Known → Option Tree → Goal → Result Record Refusal
built_output known output g = then_do (ok_or BadOutput output) (output_record known g)

-- with its number, if there is a goal
abbrev pub built_at : Known → Option Tree → ℕ → Option Goal → List (ℕ × Result Record Refusal)
built_at known output n None = []
built_at known output n (Some g) = (n, built_output known output g) ∷ []

-- for each of the goals of these numbers, with its number
unfoldable pub all_built : Known → Option Tree → List Goal → List ℕ → List (ℕ × Result Record Refusal)
all_built known output goals [] = []
all_built known output goals (n ∷ ns) = built_at known output n (goal_at n goals) ++ all_built known output goals ns

abbrev pub numbered : ℕ × Result (Recorded × Tree) Refusal → ℕ × Result Record Refusal
numbered x = (x.0, built_of x.1)

-- the table has the tree that is built
abbrev pub IsStoredBuilt : List Source → Result (Recorded × Tree) Refusal → Type 0
IsStoredBuilt table (Ok b) = tree_at b.0.path table ≡ Some b.1
IsStoredBuilt table (Err why) = Unit {0}

-- ---- what is settled before a job ends

-- what comes of a job's output for a goal is among these: built under the path of what the goal keeps, it may refer to what that has
abbrev pub HasBuilt : Known → Goal → Tree → List Settlement → Type 0
HasBuilt known g tree settled = (a : Admission) (r : Resolved) → known_at known g.derivation ≡ Some a → g.resolved ≡ Some r
    → HasOutput settled r.scratch (labels_from r) a.derivation tree
