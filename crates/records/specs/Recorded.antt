-- Records as a desk keeps them: without their trees, which the path table has.
use Rattle.std.specs.Prelude.{◌≡◌, ℕ, Bool, true, ◌&&◌, List, bytes_eq}
use Rattle.std.specs.List.{AllPairs}
use Rattle.std.specs.Cmp.Lexicographic.{pointwise}
use Rattle.model.specs.Archives.{Tree, bytes_before}
use Rattle.model.specs.Classes.{Class}
use Rattle.model.specs.Worlds.{Label, Record, same_label}

-- a record without its tree
pub record Recorded : Type 0 where
  pub class : Class
  pub path : List ℕ
  pub labels : List Label

abbrev pub without_tree : Record → Recorded
without_tree r = record { class = r.class; path = r.path; labels = r.labels }

-- each label goes before all later ones by the bytes of its path, so there is one label for a path
abbrev pub AreInPathOrder : List Label → Type 0
AreInPathOrder labels = AllPairs (λ k l. bytes_before k.path l.path ≡ true) labels

-- a record with its tree
abbrev pub with_tree : Tree → Recorded → Record
with_tree tree r = record { class = r.class; path = r.path; tree = tree; labels = r.labels }

-- records of one class at one path, with the same labels
abbrev pub same_recorded : Recorded → Recorded → Bool
same_recorded q r = bytes_eq q.class.path r.class.path && (bytes_eq q.path r.path && pointwise same_label q.labels r.labels)
