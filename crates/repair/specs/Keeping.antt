-- How many bytes are kept of records that were repaired.
use Rattle.std.specs.Prelude.{ℕ, ◌+◌, ◌*◌, Bool, List, length, sum_by, bytes_eq}
use Rattle.std.specs.Global.{Vec}
use Rattle.std.specs.Cmp.Lexicographic.{pointwise}
use Rattle.model.specs.Archives.{nar}
use Rattle.repair.specs.Repaired.{made_len}
use Rattle.repair.specs.declared.repair.Repair.{Repair}

-- what a repaired record counts: the bytes of the archives of the tree that it was made of and of the one that came of it, and 1,024 for itself and for
-- each of its labels
abbrev pub size_of : Repair → ℕ
size_of r = length (nar r.tree) + made_len r.outcome + 1024 * (length r.replacements.items + 1)

-- what the records count that are kept by keys
abbrev pub sizes : {K : Type 0} → List (K × Repair) → ℕ
sizes entries = sum_by (λ e. size_of e.1) entries

-- whether two keys are of the same paths
abbrev pub same_key : Vec (List ℕ) → Vec (List ℕ) → Bool
same_key one other = pointwise bytes_eq one.items other.items
