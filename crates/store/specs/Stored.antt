-- What contracts see of the table.
use Rattle.std.specs.Prelude.{◌≡◌, ◌≢◌, ◌⊎◌, ℕ, Bool, List, [], ◌∷◌, ◌++◌, map, filter, true, is_some, Some, None, All, if◌then◌else◌, refl}
use Rattle.std.specs.Coded.{Coded, code_by, coded×, coded_ℕ, coded_list}
use Rattle.model.specs.Archives.{Tree, nar}
use Rattle.model.specs.TreeCode.{tree_code}
use Rattle.model.specs.Worlds.{Source, tree_at}

-- the trees of the table with their paths, in order, and for how many more there is room
pub record Stored : Type 0 where
  pub sources : List Source
  pub room : ℕ

-- the sources of a map's entries
abbrev pub source_of : List ℕ × Tree → Source
source_of e = record { path = e.0; tree = e.1 }

abbrev pub sources_of : List (List ℕ × Tree) → List Source
sources_of entries = map source_of entries

-- sources with one more, unless its path is there
abbrev pub put_once : Source → List Source → List Source
put_once s sources = if is_some (tree_at s.path sources) then sources else sources ++ s ∷ []

-- sources with this one more, unless its path was there
abbrev pub IsAdded : List ℕ → Tree → List Source → List Source → Type 0
IsAdded path tree old new = new ≡ put_once (record { path = path; tree = tree }) old

-- sources with each of others, one after another, unless its path is there
abbrev pub put_all : List Source → List Source → List Source
put_all [] sources = sources
put_all (s ∷ others) sources = put_all others (put_once s sources)

-- those of the sources whose paths pass a test
abbrev pub kept_at : (List ℕ → Bool) → List Source → List Source
kept_at test sources = filter (λ s. test s.path) sources

-- none of others has a path that is there, or that one before it has
abbrev pub AreNew : List Source → List Source → Type 0
AreNew sources [] = Unit {0}
AreNew sources (s ∷ others) = (tree_at s.path sources ≡ None) × AreNew (sources ++ s ∷ []) others

-- another tree is at the path
pub record IsTaken (sources : List Source) (path : List ℕ) (tree : Tree) : Type 0 where
  pub had : Tree
  pub there : tree_at path sources ≡ Some had
  pub other : nar had ≢ nar tree

-- another tree is at the path of one of these, in the table or with one before it
pub record AreTaken (sources : List Source) (trees : List (List ℕ × Tree)) : Type 0 where
  pub before : List (List ℕ × Tree)
  pub one : List ℕ × Tree
  pub after : List (List ℕ × Tree)
  pub are : trees ≡ before ++ one ∷ after
  pub taken : IsTaken (put_all (sources_of before) sources) one.0 one.1

-- a tree that is among all that are stored was not collected
pub record IsFound (all : List Source) (e : List ℕ × Tree) (old new : List Source) (before after : List (List ℕ × Tree)) : Type 0 where
  pub there : tree_at e.0 all ≡ Some e.1
  pub kept : new ≡ old
  pub same : after ≡ before

-- a tree that is not among them was put into the table of those that are missing, and is the last of them
pub record IsNew (all : List Source) (e : List ℕ × Tree) (old new : List Source) (before after : List (List ℕ × Tree)) : Type 0 where
  pub absent : tree_at e.0 all ≡ None
  pub put : new ≡ old ++ source_of e ∷ []
  pub last : after ≡ before ++ e ∷ []

abbrev pub IsCollected : List Source → List ℕ × Tree → List Source → List Source → List (List ℕ × Tree) → List (List ℕ × Tree) → Type 0
IsCollected all e old new before after = IsFound all e old new before after ⊎ IsNew all e old new before after

-- the table with these trees put there has each of them at its path
abbrev pub AreThere : List Source → List (List ℕ × Tree) → Type 0
AreThere sources trees = All (λ e. tree_at e.0 (put_all (sources_of trees) sources) ≡ Some e.1) trees

-- every path of a table has the same tree in a later one
abbrev pub Extends : List Source → List Source → Type 0
Extends old new = (p : List ℕ) → is_some (tree_at p old) ≡ true → tree_at p new ≡ tree_at p old

abbrev source_code : Coded Source
source_code = code_by (List ℕ × Tree) (coded× (coded_list coded_ℕ) tree_code) (λ s. (s.path, s.tree)) (λ p. record { path = p.0; tree = p.1 }) (λ _. refl)

abbrev pub stored_code : Coded Stored
stored_code = code_by (List Source × ℕ) (coded× (coded_list source_code) coded_ℕ) (λ s. (s.sources, s.room)) (λ p. record { sources = p.0; room = p.1 }) (λ _. refl)
