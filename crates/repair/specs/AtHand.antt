-- Which repaired records are at hand.
use Rattle.std.specs.Prelude.{◌≡◌, ℕ, false, List, ◌∷◌, map, Option, Some, bytes_eq}
use Rattle.std.specs.Global.{Vec}
use Rattle.std.specs.Map.{lookup}
use Rattle.std.specs.Cmp.Lexicographic.{pointwise}
use Rattle.model.specs.Worlds.{Record}
use Rattle.model.specs.Repairs.{Replacement}
use Rattle.repair.specs.declared.repair.Repair.{Repair}

-- it is of this record, whose labels are replaced so: its own labels make no difference
pub record IsOf (chosen : Record) (replacements : List Replacement) (r : Repair) : Type 0 where
  pub class_is : r.class ≡ chosen.class
  pub path_is : r.path ≡ chosen.path
  pub tree_is : r.tree ≡ chosen.tree
  pub replacements_are : r.replacements.items ≡ replacements

-- the paths by which it is kept
abbrev pub paths_of_key : Record → List Replacement → List (List ℕ)
paths_of_key chosen replacements = chosen.path ∷ map (λ m. m.path) replacements

-- what is kept by these paths, if anything is
abbrev pub kept_by : List (List ℕ) → List (Vec (List ℕ) × Repair) → Option Repair
kept_by paths entries = lookup (λ key. pointwise bytes_eq paths key.items) entries

-- it is kept so
pub record IsKept (entries : List (Vec (List ℕ) × Repair)) (chosen : Record) (replacements : List Replacement) : Type 0 where
  pub one : Repair
  pub there : kept_by (paths_of_key chosen replacements) entries ≡ Some one
  pub is : IsOf chosen replacements one

-- ---- what is kept for one step

-- by the paths of classes, what came of the records that serve them
abbrev pub MadeRepairs : Type 0
MadeRepairs = List (List ℕ × Repair)

-- what came of a record whose labels are replaced so is there
pub record IsMade (made : MadeRepairs) (chosen : Record) (replacements : List Replacement) : Type 0 where
  pub one : Repair
  pub there : lookup (bytes_eq chosen.class.path) made ≡ Some one
  pub is : IsOf chosen replacements one

-- what is there for other classes than this one stays
abbrev pub KeepsOthers : List ℕ → MadeRepairs → MadeRepairs → Type 0
KeepsOthers class old new = (other : List ℕ) → bytes_eq other class ≡ false → lookup (bytes_eq other) new ≡ lookup (bytes_eq other) old
