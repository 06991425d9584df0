-- What goals are built from is equal, where it is equal but for the trees and a table has them, or they are equal too.
use Rattle.std.proofs.Common.{◌≡◌, ℕ, true, List, [], ◌∷◌, refl, sym, ◌∙◌, ap, arith, Option, Some, None, inl, inr}
use Rattle.std.proofs.lemmas.Bool.Decides.{nat_tests}
use Rattle.std.specs.Prelude.{◌&&◌, ◌==◌, bytes_eq, All}
use Rattle.std.specs.Cmp.Lexicographic.{pointwise}
use Rattle.std.proofs.lemmas.List.Elements.{All-head, All-tail}
use Rattle.model.specs.Archives.{Tree}
use Rattle.model.specs.Classes.{Class}
use Rattle.model.specs.Closures.{tree_of_entry}
use Rattle.model.specs.Worlds.{Source, Label, Record, Entry, OfSource, OfRecord, Resolved, Goal, tree_at}
use Rattle.model.proofs.BoolLemmas.{both_parts, same_bytes}
use Rattle.store.specs.Stored.{Extends}
use Rattle.jobs.specs.Shared.{equal_class, equal_class_of, equal_label, equal_but_tree, equal_but_trees, trees}
use Rattle.handlers.specs.Sound.{IsStored, AreGoalsSound}
use Rattle.handlers.proofs.GoalLemmas.{goals_kept, goal_stored}
use Rattle.goals.specs.Sharing.{EqualsAllLike}

same_number : (m n : ℕ) → (m == n) ≡ true → m ≡ n
same_number m n t = grind (arith, nat_tests)

some_is : {X : Type 0} (x y : X) → Some x ≡ Some y → x ≡ y
some_is x y same = cc

-- ---- classes and labels

classes_are : (c d : Class) → equal_class c d ≡ true → c ≡ d
classes_are c d t =
    let both = both_parts (bytes_eq c.path d.path) (c.rank == d.rank) t in
    let path : c.path ≡ d.path = same_bytes c.path d.path both.0 in
    let rank : c.rank ≡ d.rank = same_number c.rank d.rank both.1 in
    λ i. record { path = path i; rank = rank i }

classes_of_are : (b c : Option Class) → equal_class_of b c ≡ true → b ≡ c
classes_of_are None None t = refl
classes_of_are None (Some d) t = cc
classes_of_are (Some c) None t = cc
classes_of_are (Some c) (Some d) t = ap Some (classes_are c d t)

labels_are : (k l : Label) → equal_label k l ≡ true → k ≡ l
labels_are k l t =
    let both = both_parts (bytes_eq k.path l.path) (equal_class_of k.class l.class) t in
    let path : k.path ≡ l.path = same_bytes k.path l.path both.0 in
    let class : k.class ≡ l.class = classes_of_are k.class l.class both.1 in
    λ i. record { path = path i; class = class i }

all_labels_are : (ks ls : List Label) → pointwise equal_label ks ls ≡ true → ks ≡ ls
all_labels_are [] [] t = refl
all_labels_are [] (l ∷ ls) t = cc
all_labels_are (k ∷ ks) [] t = cc
all_labels_are (k ∷ ks) (l ∷ ls) t =
    let both = both_parts (equal_label k l) (pointwise equal_label ks ls) t in
    let first : k ≡ l = labels_are k l both.0 in
    let rest : ks ≡ ls = all_labels_are ks ls both.1 in
    λ i. first i ∷ rest i

-- ---- what is equal but for the trees, and has equal trees

sources_are : (s t : Source) → bytes_eq s.path t.path ≡ true → s.tree ≡ t.tree → s ≡ t
sources_are s t same tree =
    let path : s.path ≡ t.path = same_bytes s.path t.path same in
    λ i. record { path = path i; tree = tree i }

records_are : (q r : Record) → equal_but_tree (OfRecord q) (OfRecord r) ≡ true → q.tree ≡ r.tree → q ≡ r
records_are q r t tree =
    let first = both_parts (equal_class q.class r.class) (bytes_eq q.path r.path && pointwise equal_label q.labels r.labels) t in
    let second = both_parts (bytes_eq q.path r.path) (pointwise equal_label q.labels r.labels) first.1 in
    let class : q.class ≡ r.class = classes_are q.class r.class first.0 in
    let path : q.path ≡ r.path = same_bytes q.path r.path second.0 in
    let labels : q.labels ≡ r.labels = all_labels_are q.labels r.labels second.1 in
    λ i. record { class = class i; path = path i; tree = tree i; labels = labels i }

entry_is : (e f : Entry) → equal_but_tree e f ≡ true → tree_of_entry e ≡ tree_of_entry f → e ≡ f
entry_is (OfSource s) (OfSource t) same tree = ap OfSource (sources_are s t same tree)
entry_is (OfSource s) (OfRecord r) same tree = cc
entry_is (OfRecord q) (OfSource t) same tree = cc
entry_is (OfRecord q) (OfRecord r) same tree = ap OfRecord (records_are q r same tree)

first_is : (t u : Tree) (ts us : List Tree) → (t ∷ ts) ≡ (u ∷ us) → t ≡ u
first_is t u ts us same = cc

rest_is : (t u : Tree) (ts us : List Tree) → (t ∷ ts) ≡ (u ∷ us) → ts ≡ us
rest_is t u ts us same = cc

entries_are : (es fs : List Entry) → pointwise equal_but_tree es fs ≡ true → trees es ≡ trees fs → es ≡ fs
entries_are [] [] t same = refl
entries_are [] (f ∷ fs) t same = cc
entries_are (e ∷ es) [] t same = cc
entries_are (e ∷ es) (f ∷ fs) t same =
    let both = both_parts (equal_but_tree e f) (pointwise equal_but_tree es fs) t in
    let first : e ≡ f = entry_is e f both.0 (first_is (tree_of_entry e) (tree_of_entry f) (trees es) (trees fs) same) in
    let rest : es ≡ fs = entries_are es fs both.1 (rest_is (tree_of_entry e) (tree_of_entry f) (trees es) (trees fs) same) in
    λ i. first i ∷ rest i

equal_closures : (q r : Resolved) → equal_but_trees q r ≡ true → pointwise equal_but_tree q.closure r.closure ≡ true
equal_closures q r t =
    let first = both_parts (bytes_eq q.scratch r.scratch) (bytes_eq q.text r.text && pointwise equal_but_tree q.closure r.closure) t in
    (both_parts (bytes_eq q.text r.text) (pointwise equal_but_tree q.closure r.closure) first.1).1

resolved_is : (q r : Resolved) → equal_but_trees q r ≡ true → trees q.closure ≡ trees r.closure → q ≡ r
resolved_is q r t same =
    let first = both_parts (bytes_eq q.scratch r.scratch) (bytes_eq q.text r.text && pointwise equal_but_tree q.closure r.closure) t in
    let second = both_parts (bytes_eq q.text r.text) (pointwise equal_but_tree q.closure r.closure) first.1 in
    let scratch : q.scratch ≡ r.scratch = same_bytes q.scratch r.scratch first.0 in
    let text : q.text ≡ r.text = same_bytes q.text r.text second.0 in
    let closure : q.closure ≡ r.closure = entries_are q.closure r.closure second.1 same in
    λ i. record { closure = closure i; text = text i; scratch = scratch i }

-- ---- what a table has: one path has one tree

module _ (table : List Source) where
  one_tree : (p q : List ℕ) (t u : Tree) → bytes_eq p q ≡ true → tree_at p table ≡ Some t → tree_at q table ≡ Some u → t ≡ u
  one_tree p q t u same there here = some_is t u (sym there ∙ ap (λ x. tree_at x table) (same_bytes p q same) ∙ here)

  stored_tree : (e f : Entry) → equal_but_tree e f ≡ true → IsStored table e → IsStored table f → tree_of_entry e ≡ tree_of_entry f
  stored_tree (OfSource s) (OfSource t) same there here = one_tree s.path t.path s.tree t.tree same there here
  stored_tree (OfSource s) (OfRecord r) same there here = cc
  stored_tree (OfRecord q) (OfSource t) same there here = cc
  stored_tree (OfRecord q) (OfRecord r) same there here =
      let first = both_parts (equal_class q.class r.class) (bytes_eq q.path r.path && pointwise equal_label q.labels r.labels) same in
      let second = both_parts (bytes_eq q.path r.path) (pointwise equal_label q.labels r.labels) first.1 in
      one_tree q.path r.path q.tree r.tree second.0 there here

  stored_trees : (es fs : List Entry) → pointwise equal_but_tree es fs ≡ true → All (IsStored table) es → All (IsStored table) fs → trees es ≡ trees fs
  stored_trees [] [] t there here = refl
  stored_trees [] (f ∷ fs) t there here = cc
  stored_trees (e ∷ es) [] t there here = cc
  stored_trees (e ∷ es) (f ∷ fs) t there here =
      let both = both_parts (equal_but_tree e f) (pointwise equal_but_tree es fs) t in
      let first : tree_of_entry e ≡ tree_of_entry f =
      stored_tree e f both.0 (All-head (IsStored table) e es there) (All-head (IsStored table) f fs here) in
      let rest : trees es ≡ trees fs =
      stored_trees es fs both.1 (All-tail (IsStored table) e es there) (All-tail (IsStored table) f fs here) in
      λ i. first i ∷ rest i

-- a later table has the trees of a planned goal, as it has those of another closure; where the trees are equal, no table is needed
pub like_equals : (old new : List Source) (goals : List Goal) (r : Resolved) → Extends old new → AreGoalsSound old goals
    → All (IsStored new) r.closure → EqualsAllLike goals r
like_equals old new goals r later sound here q it = elim it.like.safe [
  | inl planned ↦
      let there : All (IsStored new) q.closure =
      goal_stored new goals it.number it.goal q (goals_kept old new later goals sound) it.there planned it.like.built_from in
      resolved_is q r it.like.equal (stored_trees new q.closure r.closure (equal_closures q r it.like.equal) there here)
  | inr same ↦ resolved_is q r it.like.equal same
]
