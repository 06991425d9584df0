-- What a closure counts that a pass keeps.
use Rattle.std.specs.Prelude.{ℕ, ◌+◌, ◌*◌, ◌≤◌, List, length, sum_by}
use Rattle.model.specs.Archives.{nar}
use Rattle.model.specs.Worlds.{Entry}
use Rattle.model.specs.Closures.{labels_of_entry, tree_of_entry}
use Rattle.model.specs.Replies.{Reply, Closure}

-- an entry counts the bytes of its archive, and 1,024 for itself and for each of its labels: what it has in the text of the closure is shorter
abbrev pub size_of_entry : Entry → ℕ
size_of_entry entry = length (nar (tree_of_entry entry)) + 1024 * (length (labels_of_entry entry) + 1)

-- a closure counts what its entries do
abbrev pub size_of : List Entry → ℕ
size_of entries = sum_by size_of_entry entries

-- a reply is a closure that counts so many bytes at most
abbrev pub IsClosureWithin : ℕ → Reply → Type 0
IsClosureWithin most (Closure entries) = size_of entries ≤ most
IsClosureWithin most reply = ⊥
