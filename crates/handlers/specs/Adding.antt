-- Adding an entry with its tree.
use Rattle.std.specs.Prelude.{◌≡◌, ◌⊎◌, ℕ, List, None, Some}
use Rattle.model.specs.Archives.{Tree}
use Rattle.model.specs.Worlds.{Source, tree_at}

-- nothing is stored at the path, or this tree is
abbrev pub IsFree : List ℕ → Tree → List Source → Type 0
IsFree path tree sources = (tree_at path sources ≡ None) ⊎ (tree_at path sources ≡ Some tree)
