-- What goals are built from, where it may be shared: it is equal, or it is equal but for the trees and the table has them.
use Rattle.std.specs.Prelude.{◌≡◌, ℕ, ◌==◌, Bool, true, false, ◌&&◌, ◌⊎◌, List, map, bytes_eq, Option, None, Some}
use Rattle.std.specs.Cmp.Lexicographic.{pointwise}
use Rattle.model.specs.Archives.{Tree}
use Rattle.model.specs.Classes.{Class}
use Rattle.model.specs.Closures.{tree_of_entry}
use Rattle.model.specs.Worlds.{Label, Entry, OfSource, OfRecord, Resolved, Goal}
use Rattle.model.specs.KeptClosures.{is_planned}
use Rattle.model.specs.Goals.{goal_at}

-- ---- what is equal but for the trees

abbrev pub equal_class : Class → Class → Bool
equal_class c d = bytes_eq c.path d.path && c.rank == d.rank

abbrev pub equal_class_of : Option Class → Option Class → Bool
equal_class_of None None = true
equal_class_of None (Some d) = false
equal_class_of (Some c) None = false
equal_class_of (Some c) (Some d) = equal_class c d

abbrev pub equal_label : Label → Label → Bool
equal_label k l = bytes_eq k.path l.path && equal_class_of k.class l.class

abbrev pub equal_but_tree : Entry → Entry → Bool
equal_but_tree (OfSource s) (OfSource t) = bytes_eq s.path t.path
equal_but_tree (OfSource s) (OfRecord r) = false
equal_but_tree (OfRecord r) (OfSource s) = false
equal_but_tree (OfRecord q) (OfRecord r) = equal_class q.class r.class && (bytes_eq q.path r.path && pointwise equal_label q.labels r.labels)

abbrev pub equal_but_trees : Resolved → Resolved → Bool
equal_but_trees a b = bytes_eq a.scratch b.scratch && (bytes_eq a.text b.text && pointwise equal_but_tree a.closure b.closure)

-- ---- what may be shared

-- the trees of a closure, in the order of its entries
abbrev pub trees : List Entry → List Tree
trees entries = map tree_of_entry entries

-- a goal is built from q, which is equal to r but for the trees; and the goal is planned, or built, so that the table has its trees, or
-- the trees are equal too
pub record IsLike (goal : Goal) (r q : Resolved) : Type 0 where
  pub built_from : goal.resolved ≡ Some q
  pub equal : equal_but_trees q r ≡ true
  pub safe : (is_planned goal.status ≡ true) ⊎ (trees q.closure ≡ trees r.closure)

-- one of the goals is such a goal
pub record IsBuiltLike (goals : List Goal) (r q : Resolved) : Type 0 where
  pub number : ℕ
  pub goal : Goal
  pub there : goal_at number goals ≡ Some goal
  pub like : IsLike goal r q
