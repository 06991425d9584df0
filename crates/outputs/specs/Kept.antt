-- What is kept of sources and of trees that were settled.
use Rattle.std.specs.Prelude.{◌≡◌, ℕ, List, Contains, Option, Some, None}
use Rattle.model.specs.Archives.{Tree}
use Rattle.model.specs.Derivations.{Derivation}
use Rattle.model.specs.Worlds.{Label}
use Rattle.outputs.specs.declared.input.Input.{Input}
use Rattle.outputs.specs.declared.placed.Placed.{Placed}
use Rattle.outputs.specs.declared.settlement.Settlement.{Settlement}
use Rattle.outputs.specs.Outputs.{IsInputOf, IsSameInput}

-- the path of a tree under a name is among these
pub record HasPlaced (all : List Placed) (name : List ℕ) (tree : Tree) : Type 0 where
  pub one : Placed
  pub among : Contains all one
  pub name_is : one.name ≡ name
  pub tree_is : one.tree ≡ tree

-- it is not that of this tree under this name
abbrev pub IsOther : List ℕ → Tree → Placed → Type 0
IsOther name tree p = p.name ≡ name → p.tree ≡ tree → ⊥

-- what came of a tree that was settled by an input is among these
pub record HasSettled (all : List Settlement) (input : Input) (tree : Tree) : Type 0 where
  pub one : Settlement
  pub among : Contains all one
  pub input_is : IsSameInput one.input input
  pub tree_is : one.tree ≡ tree

-- it is not what came of this tree by this input
abbrev pub IsOtherSettled : Input → Tree → Settlement → Type 0
IsOtherSettled input tree s = IsSameInput s.input input → s.tree ≡ tree → ⊥

-- what came of the output of a derivation is among these, which was built under a path and may refer to these
pub record HasOutput (all : List Settlement) (own : List ℕ) (labels : List Label) (x : Derivation) (tree : Tree) : Type 0 where
  pub input : Input
  pub input_is : IsInputOf own labels x input
  pub has : HasSettled all input tree

-- and what comes of a tree where it is to be settled by an input, if it is to be at all
abbrev pub HasNeeded : List Settlement → Option Input → Tree → Type 0
HasNeeded all None tree = Unit {0}
HasNeeded all (Some input) tree = HasSettled all input tree
