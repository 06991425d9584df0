-- When each refusal comes.
use Rattle.std.specs.Prelude.{◌≡◌, ◌<◌, ℕ, List, length}
use Rattle.model.specs.Archives.{Tree, nar}
use Rattle.model.specs.TreeTexts.{tree_text_of}
use Rattle.model.specs.Words.{IsWellFormed}
use Rattle.model.specs.declared.refusal.Refusal.{Refusal}
use Rattle.model.specs.declared.refusal.Refusal.TheVariants.{TooLarge, BadNar, Memory}
use Rattle.model.specs.Limits.{most_archive_bytes}

-- why a text is not read as a tree's text: it is none, else the tree's archive is over 64 MiB, or for want of memory
abbrev pub IsNoText : List ℕ → Refusal → Type 0
IsNoText bytes TooLarge = (tree : Tree) × IsWellFormed tree × (tree_text_of tree ≡ bytes) × (most_archive_bytes < length (nar tree))
IsNoText bytes BadNar = (tree : Tree) → IsWellFormed tree → tree_text_of tree ≡ bytes → ⊥
IsNoText bytes Memory = Unit {0}
IsNoText bytes why = ⊥
