-- What the desks of the store keep, and what the table keeps for them.
use Rattle.std.specs.Prelude.{◌≡◌, ◌≢◌, ℕ, ◌≤◌, Bool, true, List, [], length, map, is_some, option_map, All, Some}
use Rattle.model.specs.Archives.{nar}
use Rattle.model.specs.Limits.{most_sources, most_derivations, most_records, most_pins, most_entries}
use Rattle.model.specs.Settling.{Settled}
use Rattle.model.specs.SettledTrees.{IsMade}
use Rattle.model.specs.Worlds.{Source, Record, Desk, Entry, path_of_entry, Resolved, Goal, tree_at, charge_of}
use Rattle.model.specs.KeptClosures.{is_planned}
use Rattle.model.specs.Closures.{tree_of_entry, entry_before, IsWhole}
use Rattle.records.specs.Recorded.{Recorded}
use Rattle.laws.proofs.SetLemmas.{Ascends}
use Rattle.records.specs.Trees.{source_at, record_at}
use Rattle.realise.specs.Holdings.{Holdings, paths_of, IsClosed}

-- sources with their trees
abbrev pub sources_at : List Source → List (List ℕ) → List Source
sources_at table paths = map (source_at table) paths

-- records with their trees
abbrev pub records_at : List Source → List Recorded → List Record
records_at table records = map (record_at table) records

-- what a user's desk has beside what he holds: whom he trusts, and his goals
pub record Beside : Type 0 where
  pub trusted : List ℕ → Bool
  pub goals : List Goal

-- the desk of the model that a table, what a user has, and what is kept beside it stand for
abbrev pub desk_of : Beside → List Source → Holdings → Desk
desk_of beside table d = record {
  trusted = beside.trusted;
  sources = sources_at table d.known.sources;
  derivations = d.known.derivations;
  records = records_at table d.records;
  pins = d.pins;
  goals = beside.goals;
}

-- the table has a tree at a path, whose archive has so many bytes
abbrev pub IsSized : List Source → List ℕ × ℕ → Type 0
IsSized table a = option_map (λ t. length (nar t)) (tree_at a.0 table) ≡ Some a.1

-- the paths that a desk holds are in the table, with archives of so many bytes, its charge is theirs, it is within the limits, and what its labels name is on it
pub record IsSound (table : List Source) (limit : ℕ) (d : Holdings) : Type 0 where
  pub charged : (beside : Beside) → d.charge ≡ charge_of (desk_of beside table d)
  pub sized : All (IsSized table) d.archives
  pub within : d.charge ≤ limit
  pub few_sources : length d.known.sources ≤ most_sources
  pub few_derivations : length d.known.derivations ≤ most_derivations
  pub few_records : length d.records ≤ most_records
  pub few_pins : length d.pins ≤ most_pins
  pub known : All (λ p. is_some (tree_at p table) ≡ true) (paths_of d)
  pub closed : IsClosed d

-- a stored tree has its path by texts that were hashed
pub record IsHashed (texts : List (List ℕ)) (s : Source) : Type 0 where
  pub named : Settled
  pub path : named.path ≡ s.path
  pub tree : named.tree ≡ s.tree
  pub made : IsMade texts named

-- two trees have one path by texts that were hashed
pub record Clashes (texts : List (List ℕ)) : Type 0 where
  pub one : Source
  pub other : Source
  pub one_hashed : IsHashed texts one
  pub other_hashed : IsHashed texts other
  pub one_path : one.path ≡ other.path
  pub two_trees : nar one.tree ≢ nar other.tree

-- a desk with nothing
pub record IsEmpty (d : Holdings) : Type 0 where
  pub known : d.known ≡ record { derivations = []; sources = [] }
  pub records : d.records ≡ []
  pub pins : d.pins ≡ []
  pub archives : d.archives ≡ []
  pub charge : d.charge ≡ 0

-- ---- goals

-- entries of a closure: they are in order, no more than a closure may have, and whole
pub record IsClosure (entries : List Entry) : Type 0 where
  pub whole : IsWhole entries
  pub in_order : Ascends entry_before entries
  pub few : length entries ≤ most_entries

-- the tree of an entry is in the table
abbrev pub IsStored : List Source → Entry → Type 0
IsStored table e = tree_at (path_of_entry e) table ≡ Some (tree_of_entry e)

-- what a goal is built from is the closure of its inputs, of which the table has all trees while the goal may yet be built from them
abbrev pub IsResolvedIn : List Source → Goal → Type 0
IsResolvedIn table g = (r : Resolved) → g.resolved ≡ Some r → ∥ IsClosure r.closure ∥₁ × (is_planned g.status ≡ true → All (IsStored table) r.closure)

-- so it is with each of a user's goals
abbrev pub AreGoalsSound : List Source → List Goal → Type 0
AreGoalsSound table goals = All (IsResolvedIn table) goals
