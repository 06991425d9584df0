-- A law of tree texts.
use Rattle.std.specs.Prelude.{◌≡◌}
use Rattle.model.specs.Archives.{Tree, IsTree}
use Rattle.model.specs.TreeTexts.{tree_text_of}

-- trees with one tree text are one tree
abbrev pub TextsDiffer : Type 0
TextsDiffer = (a b : Tree) → IsTree a → IsTree b → tree_text_of a ≡ tree_text_of b → a ≡ b
