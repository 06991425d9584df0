-- Labels put into a map one after another, the last first.
use Rattle.std.proofs.Common.{◌≡◌, ℕ, true, false, ◌⊎◌, inl, inr, List, [], ◌∷◌, ◌++◌, refl, sym, ap, ◌∙◌}
use Rattle.std.specs.Prelude.{bytes_eq, cond, Option, Some, None}
use Rattle.std.specs.declared.cmp.Ordering.{Ordering}
use Rattle.std.specs.declared.cmp.Ordering.TheVariants.{Less, Equal, Greater}
use Rattle.std.specs.Ordering.{is_lt, is_eq, nat_cmp, ordering_reverse}
use Rattle.std.specs.Cmp.Lexicographic.{slice_cmp, same_text}
use Rattle.std.specs.BTreeMap.{is_at, insert_entry}
use Rattle.std.specs.Map.{keys_of, lookup, set_value}
use Rattle.std.specs.List.Sorted.{IsStrictlySortedBy}
use Rattle.std.proofs.lemmas.Cmp.{nat_list_cmp_total}
use Rattle.std.proofs.lemmas.Map.Text.{is_eq-slice_cmp}
use Rattle.std.proofs.lemmas.Map.{lookup-none}
use Rattle.std.proofs.lemmas.Map.Entries.{none_below_head}
use Rattle.std.proofs.lemmas.Map.Keys.{sorted_tail}
use Rattle.model.specs.Archives.{bytes_before}
use Rattle.model.specs.Classes.{Class}
use Rattle.model.specs.Worlds.{Label}
use Rattle.model.specs.References.{class_before, least_label, with_label, labels_in_order}
use Rattle.records.specs.Ordered.{label_at, labels_at, least_class}
use Rattle.model.proofs.BoolLemmas.{either}

abbrev compare : List ℕ → List ℕ → Ordering
compare = slice_cmp nat_cmp

which : (o : Ordering) → (o ≡ Less) ⊎ ((o ≡ Equal) ⊎ (o ≡ Greater))
which Less = inl refl
which Equal = inr (inl refl)
which Greater = inr (inr refl)

-- how the first of the labels compares with what is put in
turned : (p k : List ℕ) (o : Ordering) → compare k p ≡ o → compare p k ≡ ordering_reverse o
turned p k o h = nat_list_cmp_total.antisymm p k ∙ ap ordering_reverse h

before_is : (p k : List ℕ) (o : Ordering) → compare k p ≡ o → bytes_before p k ≡ is_lt (ordering_reverse o)
before_is p k o h = ap is_lt (turned p k o h)

eq_is : (p k : List ℕ) (o : Ordering) → compare k p ≡ o → bytes_eq p k ≡ is_eq (ordering_reverse o)
eq_is p k o h = sym (is_eq-slice_cmp p k) ∙ ap is_eq (turned p k o h)

-- ---- one label

-- the label of an entry, where its path is that of the label that is put in
at_place : (e : List ℕ × Option Class) (k : List ℕ) (class : Option Class) → e.0 ≡ k → (rest : List Label)
    → label_at (e.0, least_class e.1 class) ∷ rest ≡ least_label (label_at e) (record { path = k; class = class }) ∷ rest
at_place e k class path rest = elim (either (class_before class e.1)) [
  | inl t ↦ rw t (ap (λ p. label_at (p, class) ∷ rest) path)
  | inr f ↦ rw f refl
]

-- where its path has a class
pub put_there : (k : List ℕ) (class : Option Class) (entries : List (List ℕ × Option Class)) (v : Option Class)
    → IsStrictlySortedBy compare (keys_of entries) → lookup (is_at (compare k)) entries ≡ Some v
    → labels_at (set_value (is_at (compare k)) entries (least_class v class)) ≡ with_label (record { path = k; class = class }) (labels_at entries)
put_there k class [] v up found = cc
put_there k class (e ∷ entries) v up found = elim (which (compare k e.0)) [
  | inl h ↦
      let none : lookup (is_at (compare k)) (e ∷ entries) ≡ None = lookup-none (is_at (compare k)) (e ∷ entries) (none_below_head nat_list_cmp_total k e entries up h) in
      let wrong = sym none ∙ found in
      cc wrong
  | inr (inl h) ↦
      let before : bytes_before e.0 k ≡ false = before_is e.0 k Equal h in
      let same : bytes_eq e.0 k ≡ true = eq_is e.0 k Equal h in
      let value : v ≡ e.1 = (let same_value : Some e.1 ≡ Some v = rw h at found in cc) in
      let path : e.0 ≡ k = same_text e.0 k (sym same) in
      ap (λ w. labels_at (cond (is_at (compare k) e.0) ((e.0, least_class w class) ∷ entries) (e ∷ set_value (is_at (compare k)) entries (least_class w class)))) value
      ∙ rw (h, before, same) (at_place e k class path (labels_at entries))
  | inr (inr h) ↦
      let before : bytes_before e.0 k ≡ true = before_is e.0 k Greater h in
      let later : lookup (is_at (compare k)) entries ≡ Some v = rw h at found in
      rw (h, before) (ap (λ rest. label_at e ∷ rest) (put_there k class entries v (sorted_tail compare e.0 (keys_of entries) up) later))
]

-- where its path has none
pub put_new : (k : List ℕ) (class : Option Class) (entries : List (List ℕ × Option Class)) → lookup (is_at (compare k)) entries ≡ None
    → labels_at (insert_entry compare entries k class) ≡ with_label (record { path = k; class = class }) (labels_at entries)
put_new k class [] none = refl
put_new k class (e ∷ entries) none = elim (which (compare k e.0)) [
  | inl h ↦
      let before : bytes_before e.0 k ≡ false = before_is e.0 k Less h in
      let same : bytes_eq e.0 k ≡ false = eq_is e.0 k Less h in
      rw (h, before, same) refl
  | inr (inl h) ↦ let wrong : Some e.1 ≡ None = rw h at none in cc wrong
  | inr (inr h) ↦
      let before : bytes_before e.0 k ≡ true = before_is e.0 k Greater h in
      let later : lookup (is_at (compare k)) entries ≡ None = rw h at none in
      rw (h, before) (ap (λ rest. label_at e ∷ rest) (put_new k class entries later))
]

-- ---- one after another

-- labels put into others, the last first
abbrev pub put_all : List Label → List Label → List Label
put_all [] others = others
put_all (l ∷ ls) others = with_label l (put_all ls others)

pub put_all_none : (ls : List Label) → put_all ls [] ≡ labels_in_order ls
put_all_none [] = refl
put_all_none (l ∷ ls) = ap (with_label l) (put_all_none ls)

pub put_last : (ls : List Label) (l : Label) (others : List Label) → put_all (ls ++ l ∷ []) others ≡ put_all ls (with_label l others)
put_last [] l others = refl
put_last (first ∷ ls) l others = ap (with_label first) (put_last ls l others)
