-- What a core holds, and a sweep keeps.
use Rattle.std.specs.Prelude.{◌≡◌, ℕ, Bool, false, ◌&&◌, ◌||◌, List, bytes_eq, Option, None, Some}
use Rattle.std.specs.List.{list_any}
use Rattle.model.specs.Classes.{is_one_of}
use Rattle.model.specs.Worlds.{path_of_entry, Entry, Resolved, Goal}
use Rattle.model.specs.KeptClosures.{is_planned}
use Rattle.realise.specs.Held.{paths_held, IsSetOf}
use Rattle.realise.specs.Holdings.{Holdings, paths_of}
use Rattle.schedule.specs.declared.state.Core.{Core}

-- whether a desk holds a path, as that of a source or of a record
abbrev pub holds_path : Holdings → List ℕ → Bool
holds_path d path = is_one_of (paths_of d) path

-- whether one of the desks does
abbrev pub hold_path : List Holdings → List ℕ → Bool
hold_path desks path = list_any (λ d. holds_path d path) desks

-- whether an entry is at a path
abbrev pub has_entry_at : List Entry → List ℕ → Bool
has_entry_at entries path = list_any (λ e. bytes_eq (path_of_entry e) path) entries

-- whether it is so with what a goal is built from
abbrev pub is_built_from_path : Option Resolved → List ℕ → Bool
is_built_from_path None path = false
is_built_from_path (Some r) path = has_entry_at r.closure path

-- whether a goal that is planned, or is being built, keeps a path
abbrev pub keeps_path : Goal → List ℕ → Bool
keeps_path g path = is_planned g.status && is_built_from_path g.resolved path

-- whether one of a user's goals does
abbrev pub keep_path : List Goal → List ℕ → Bool
keep_path goals path = list_any (λ g. keeps_path g path) goals

-- whether one of the goals of all users does
abbrev pub keep_any_path : List (List Goal) → List ℕ → Bool
keep_any_path all path = list_any (λ goals. keep_path goals path) all

-- whether a core holds a path: a desk holds it, or a goal keeps it that is planned or is being built
abbrev pub is_held : Core → List ℕ → Bool
is_held core path = hold_path core.state.desks.items path || keep_any_path core.state.jobs.goals path

-- the archives of a desk are those of the paths that it holds
abbrev pub IsHolding : Holdings → Type 0
IsHolding d = IsSetOf (paths_held d.archives) (paths_of d)

-- a set has these keys, and the paths that pass a test with them
abbrev pub Holds : List (List ℕ) → (List ℕ → Bool) → List (List ℕ) → Type 0
Holds old test new = (path : List ℕ) → list_any (bytes_eq path) new ≡ (list_any (bytes_eq path) old || test path)
