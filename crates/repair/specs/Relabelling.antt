-- A record's tree on its way to a new path.
use Rattle.std.specs.Prelude.{◌≡◌, ◌⊎◌, List, Result, Ok, Err}
use Rattle.model.specs.declared.refusal.RewriteFault.{RewriteFault}
use Rattle.model.specs.declared.refusal.Refusal.{Refusal}
use Rattle.model.specs.declared.refusal.Refusal.TheVariants.{Memory}
use Rattle.model.specs.Archives.{Tree}
use Rattle.model.specs.Results.{unless_rewrite_refused}
use Rattle.model.specs.Settling.{Settled, hash_part_in, name_in, settled}
use Rattle.model.specs.References.{paths_of_labels}
use Rattle.model.specs.Worlds.{Label, Record}
use Rattle.model.specs.Repairs.{Replacement, rewritten}

-- memory was refused, or hash parts cannot be put anew for this reason
abbrev pub IsRefused : {X : Type 0} → Result X RewriteFault → Refusal → Type 0
IsRefused answer why = (why ≡ Memory) ⊎ (unless_rewrite_refused answer ≡ Err why)

-- the tree of a record with the hash parts of its labels put anew, and why there is none
abbrev pub IsRewritten : Record → List Replacement → Tree → Type 0
IsRewritten r replacements tree = rewritten r replacements ≡ Ok tree

abbrev pub IsNotRewritten : Record → List Replacement → Refusal → Type 0
IsNotRewritten r replacements why = IsRefused (rewritten r replacements) why

-- that tree with the path of its content, where these are its labels, and why there is none
abbrev pub resettled_with : Record → List Label → Tree → Result Settled RewriteFault
resettled_with r labels tree = settled tree (hash_part_in r.path) (paths_of_labels labels) (name_in r.path)

abbrev pub IsResettled : Record → List Label → Tree → Settled → Type 0
IsResettled r labels tree value = resettled_with r labels tree ≡ Ok value

abbrev pub IsNotResettled : Record → List Label → Tree → Refusal → Type 0
IsNotResettled r labels tree why = IsRefused (resettled_with r labels tree) why

-- a record of the class of another with these labels, at the path of a settled tree
abbrev pub settled_as : Record → List Label → Settled → Record
settled_as r labels s = record { class = r.class; path = s.path; tree = s.tree; labels = labels }
