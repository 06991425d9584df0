-- What a set of paths finds by their hash parts.
use Rattle.std.specs.Prelude.{◌≡◌, ℕ, ◌-◌, true, false, if◌then◌else◌, All, List, [], ◌∷◌, ◌++◌, length, take, drop, map, filter, bytes_eq, unwrap_or, Option, Some, None}
use Rattle.std.specs.List.{flat_map}
use Rattle.std.specs.Map.{lookup}
use Rattle.std.specs.Arc.{arc_value}
use Rattle.std.specs.declared.sync.Arc.{Arc}
use Rattle.model.specs.Classes.{is_one_of}
use Rattle.model.specs.Occurrences.{IsHashPart, among}
use Rattle.model.specs.Paths.{IsPath}
use Rattle.model.specs.Settling.{hash_part_in}
use Rattle.path_sets.specs.Slots.{is_marked}

-- none of paths is among these, or comes twice
abbrev pub AreNew : List (List ℕ) → List (List ℕ) → Type 0
AreNew known [] = Unit {0}
AreNew known (path ∷ paths) = (is_one_of known path ≡ false) × AreNew (known ++ path ∷ []) paths

-- the paths with a hash part
abbrev pub with_part : List ℕ → List (List ℕ) → List (List ℕ)
with_part part paths = filter (λ path. bytes_eq (hash_part_in path) part) paths

-- the hash parts of paths
abbrev pub parts_of : List (List ℕ) → List (List ℕ)
parts_of paths = map hash_part_in paths

-- ---- groups

-- paths by their hash parts
abbrev pub Groups : Type 0
Groups = List (List ℕ × List (List ℕ))

-- all but the last
abbrev pub without_last : List (List ℕ) → List (List ℕ)
without_last paths = take (length paths - 1) paths

-- those of a hash part: none where there is none
abbrev pub group_at : List ℕ → Groups → List (List ℕ)
group_at part groups = unwrap_or (lookup (bytes_eq part) groups) []

-- one path more is behind those of its hash part, and no other group has changed
abbrev pub HasOneMore : List ℕ → List ℕ → Groups → Groups → Type 0
HasOneMore part path old new = (p : List ℕ) → group_at p new ≡ (if bytes_eq part p then group_at p old ++ path ∷ [] else group_at p old)

-- the last path of a hash part is gone, and no other group has changed
abbrev pub HasOneLess : List ℕ → Groups → Groups → Type 0
HasOneLess part old new = (p : List ℕ) → group_at p new ≡ (if bytes_eq part p then without_last (group_at p old) else group_at p old)

abbrev pub HasSame : Groups → Groups → Type 0
HasSame old new = (p : List ℕ) → group_at p new ≡ group_at p old

-- ---- tables

-- what tells a path from others: all begin with `/nix/store/`
abbrev pub base_name : List ℕ → List ℕ
base_name path = drop 11 path

-- that of a path behind its length
abbrev pub counted : List ℕ → List ℕ
counted path = length (base_name path) ∷ base_name path

-- the paths of a set, in groups by their hash parts, whose slots are marked, and their base names side by side
pub record IsTable (paths : List (List ℕ)) (groups : Groups) (slots : List ℕ) (names : List ℕ) : Type 0 where
  pub paths_are : All IsPath paths
  pub parts_are : All (λ path. IsHashPart (hash_part_in path)) paths
  pub grouped : (part : List ℕ) → group_at part groups ≡ with_part part paths
  pub marked : (window : List ℕ) → among (parts_of paths) window ≡ true → is_marked slots window ≡ true
  pub names_are : names ≡ flat_map counted paths

-- the paths of a set that may have no table yet
abbrev pub paths_in : {A : Type 0} → Option (Arc (List (List ℕ)) A) → List (List ℕ)
paths_in None = []
paths_in (Some table) = arc_value table
