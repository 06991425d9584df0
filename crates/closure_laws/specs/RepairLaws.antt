-- Laws of repair.
use Rattle.std.specs.Prelude.{◌≡◌, ℕ, ◌⊎◌, false, List, [], ◌∷◌, ◌++◌, map, flat_map, bytes_eq, All, Contains, Ok}
use Rattle.model.specs.Archives.{IsTree}
use Rattle.model.specs.Paths.{IsPath}
use Rattle.model.specs.Settling.{Settled, IsGone}
use Rattle.model.specs.SettledTrees.{IsMade}
use Rattle.model.specs.Worlds.{Desk, Pin, Record, Source, Entry, OfSource, OfRecord, path_of_entry}
use Rattle.model.specs.References.{paths_of_labels}
use Rattle.model.specs.Choices.{Plan, closure_plan}
use Rattle.model.specs.Repairs.{Replacement, relabelled, serve, chosen_in, serving_texts}
use Rattle.model.specs.Closures.{tree_of_entry, served_plan, KeepsNoReplaced}
use Rattle.records.specs.Plans.{IsInOrder}
use Rattle.records.specs.Sound.{IsSoundRecord, IsSoundPlan}
use Rattle.closure_laws.specs.SoundPlans.{AreReplacements, PartsTellApart}

-- the paths of a record's labels, and those that stand in their places
abbrev pub replaced_paths : Record → List Replacement → List (List ℕ)
replaced_paths r replacements = paths_of_labels r.labels ++ map (λ m. m.path) replacements

-- a path that is replaced is gone from the tree of the record whose labels were replaced
abbrev pub ReplacedIsGone : Type 0
ReplacedIsGone =
    (r : Record) (replacements : List Replacement) (q : Record) → IsSoundRecord r → AreReplacements r.labels replacements
    → PartsTellApart (replaced_paths r replacements) → relabelled r replacements ≡ Ok q
    → (m : Replacement) → Contains replacements m → bytes_eq m.path m.label.path ≡ false → IsGone m.label.path q.path q.tree

-- what serves a class has a path and a tree
abbrev pub ServedIsSound : Type 0
ServedIsSound =
    (records : List Record) → All IsSoundRecord records → (class : List ℕ) (q : Record) → serve (chosen_in records) class ≡ Ok q
    → IsPath q.path × IsTree q.tree

abbrev pub paths_of_record : Entry → List (List ℕ)
paths_of_record (OfSource s) = []
paths_of_record (OfRecord r) = r.path ∷ []

-- the paths that records of a plan label, and the paths of the records among its entries
abbrev pub paths_in : Plan → List Entry → List (List ℕ)
paths_in p entries = flat_map (λ r. paths_of_labels r.labels) p.records ++ flat_map paths_of_record entries

-- what is served for a plan keeps no path that is replaced
abbrev pub PlansKeepNoReplaced : Type 0
PlansKeepNoReplaced =
    (p : Plan) (entries : List Entry) → IsSoundPlan p → IsInOrder p → PartsTellApart (paths_in p entries) → served_plan p ≡ Ok entries
    → KeepsNoReplaced p entries

-- and so is what is served for the plan of a view
abbrev pub ClosuresKeepNoReplaced : Type 0
ClosuresKeepNoReplaced =
    (view : List Desk) (pins : List Pin) (classes sources : List (List ℕ)) (p : Plan) (entries : List Entry)
    → closure_plan view pins classes sources ≡ Ok p → IsSoundPlan p → PartsTellApart (paths_in p entries) → served_plan p ≡ Ok entries
    → KeepsNoReplaced p entries

-- an entry is of a plan as it is, or has a tree with the path that was made for it
abbrev pub IsServedEntry : List (List ℕ) → Plan → Entry → Type 0
IsServedEntry texts p e =
    ((s : Source) × Contains p.sources s × (e ≡ OfSource s))
    ⊎ (((r : Record) × Contains p.records r × (path_of_entry e ≡ r.path) × (tree_of_entry e ≡ r.tree))
    ⊎ ((s : Settled) × IsMade texts s × (s.path ≡ path_of_entry e) × (s.tree ≡ tree_of_entry e)))

-- each entry of a plan is so, by the texts that are hashed for the plan
abbrev pub ServedAreMade : Type 0
ServedAreMade =
    (p : Plan) (entries : List Entry) (texts : List (List ℕ)) → IsSoundPlan p → served_plan p ≡ Ok entries
    → All (Contains texts) (serving_texts p.records) → (e : Entry) → Contains entries e → IsServedEntry texts p e
