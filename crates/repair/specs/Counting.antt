-- What a cache counts.
use Rattle.std.specs.Prelude.{◌≡◌, ◌⊎◌, ◌≤◌, ⊤, ℕ, true, false, List, [], Option, None, Some, is_some}
use Rattle.std.specs.List.{list_any}
use Rattle.std.specs.Global.{Box}
use Rattle.indexmap.specs.IndexMap.{IndexMap}
use Rattle.model.specs.Worlds.{Record}
use Rattle.model.specs.Repairs.{Replacement, changes_path, is_replaced_by}
use Rattle.repair.specs.Keeping.{sizes}
use Rattle.repair.specs.AtHand.{IsKept, MadeRepairs, IsMade}
use Rattle.repair.specs.declared.repair.Repair.{Repair}
use Rattle.repair.specs.declared.kept.Kept.{Kept}
use Rattle.repair.specs.declared.made.Made.{Made}
use Rattle.repair.specs.declared.cache.Cache.{Cache}

-- how many look-ups the records that are kept answered
abbrev pub hits_of : Option (Box Kept) → ℕ
hits_of None = 0
hits_of (Some kept) = kept.value.hits

-- what the records that are kept count is at most what they may
abbrev pub IsBounded : Option (Box Kept) → Type 0
IsBounded None = ⊤
IsBounded (Some kept) = sizes kept.value.records.entries ≤ kept.value.most_bytes

-- how much they may count
abbrev pub bound_of : Option (Box Kept) → Option ℕ
bound_of None = None
bound_of (Some kept) = Some kept.value.most_bytes

-- no record is kept
abbrev pub KeepsNone : Option (Box Kept) → Type 0
KeepsNone None = ⊤
KeepsNone (Some kept) = kept.value.records.entries ≡ []

-- what came of this record, whose labels are replaced so, is kept
abbrev pub IsAmongKept : Option (Box Kept) → Record → List Replacement → Type 0
IsAmongKept None chosen replacements = ⊥
IsAmongKept (Some kept) chosen replacements = IsKept kept.value.records.entries chosen replacements

-- what came of records, by class, once there are some
abbrev pub repairs_in : {S : Type 0} → Option (Box (IndexMap (List ℕ) Repair S)) → MadeRepairs
repairs_in None = []
repairs_in (Some repairs) = repairs.value.entries

-- what is kept for one step, if a cache is for one
abbrev pub made_in : Option Made → MadeRepairs
made_in None = []
made_in (Some made) = repairs_in made.repairs

-- it is for one
abbrev pub IsForStep : Cache → Type 0
IsForStep cache = is_some cache.made ≡ true

-- it is at hand
abbrev pub IsAtHand : Cache → Record → List Replacement → Type 0
IsAtHand cache chosen replacements = IsMade (made_in cache.made) chosen replacements ⊎ IsAmongKept cache.kept chosen replacements

-- a record whose labels are replaced so has to be repaired, and is not refused for its own path
abbrev pub IsToRepair : Record → List Replacement → Type 0
IsToRepair chosen replacements = (list_any changes_path replacements ≡ true) × (list_any (is_replaced_by chosen.path) replacements ≡ false)
