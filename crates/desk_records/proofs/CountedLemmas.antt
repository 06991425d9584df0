-- What the records of a desk are counted for, while records come and go.
use Rattle.std.proofs.Common.{◌≡◌, ℕ, ◌+◌, Bool, true, false, inl, inr, List, [], ◌∷◌, refl, sym, ap, ◌∙◌, arith, Some, None}
use Rattle.std.specs.Prelude.{◌&&◌, ◌||◌, not, cond, bytes_eq, count_by, nat_lt}
use Rattle.std.specs.List.{list_any}
use Rattle.std.proofs.lemmas.List.Sums.{sum_by-cons}
use Rattle.std.proofs.lemmas.Bool.Decides.{nat_tests}
use Rattle.model.specs.Classes.{Class}
use Rattle.model.specs.Worlds.{Label}
use Rattle.model.specs.ForgetRequests.{is_class_at}
use Rattle.model.proofs.BoolLemmas.{either, both_parts, same_bytes}
use Rattle.records.specs.Recorded.{Recorded}
use Rattle.desk_records.specs.RecordLists.{is_recorded_at, remaining, refers_to}
use Rattle.desk_records.specs.Counted.{names_in, names_of, is_named_by, once_for, once_under}

-- ---- what the counts tell

pub some_more : (b : Bool) (n : ℕ) (rest : Bool) → nat_lt 0 n ≡ rest → nat_lt 0 (cond b 1 0 + n) ≡ (b || rest)
some_more true n rest is = grind (arith, nat_tests)
some_more false n rest is = let same : 0 + n ≡ n = omega arith in ap (nat_lt 0) same ∙ is

-- something passes a test where it is counted
pub some_counted : {X : Type 0} (p : X → Bool) (xs : List X) → nat_lt 0 (count_by p xs) ≡ list_any p xs
some_counted p [] = refl
some_counted p (x ∷ xs) = ap (nat_lt 0) (sum_by-cons (λ y. cond (p y) 1 0) x xs) ∙ some_more (p x) (count_by p xs) (list_any p xs) (some_counted p xs)

some_of_either : (m n : ℕ) (a b : Bool) → nat_lt 0 m ≡ a → nat_lt 0 n ≡ b → nat_lt 0 (m + n) ≡ (a || b)
some_of_either m n true b h k = grind (arith, nat_tests)
some_of_either m n false b h k = grind (arith, nat_tests)

-- a record of the class at the path names nothing of it, and another where a label does
own_or_other : (class path : List ℕ) (r : Recorded) → nat_lt 0 (names_of class path r) ≡ (not (is_recorded_at class path r) && refers_to class path r)
own_or_other class path r = some_counted (is_named_by class path r) r.labels ∙ of_labels r.labels
  where
    of_labels : (labels : List Label)
        → list_any (is_named_by class path r) labels ≡ (not (is_recorded_at class path r) && list_any (λ l. is_class_at class path l.path l.class) labels)
    of_labels labels = elim (either (is_recorded_at class path r)) [ inl t ↦ rw t (none labels t) | inr n ↦ rw n (some labels n) ]
      where
        none : (labels : List Label) → is_recorded_at class path r ≡ true → list_any (is_named_by class path r) labels ≡ false
        none [] t = refl
        none (l ∷ labels) t = elim (either (is_class_at class path l.path l.class)) [ inl u ↦ rw (u, t) (none labels t) | inr n ↦ rw n (none labels t) ]

        some : (labels : List Label) → is_recorded_at class path r ≡ false
            → list_any (is_named_by class path r) labels ≡ list_any (λ l. is_class_at class path l.path l.class) labels
        some [] n = refl
        some (l ∷ labels) n = elim (either (is_class_at class path l.path l.class)) [ inl u ↦ rw (u, n) refl | inr m ↦ rw m (some labels n) ]

pub name_there : (class path : List ℕ) (records : List Recorded)
    → nat_lt 0 (names_in class path records) ≡ list_any (refers_to class path) (remaining class path records)
name_there class path [] = refl
name_there class path (r ∷ records) =
    let rest = name_there class path records in
    let all = ap (nat_lt 0) (sum_by-cons (names_of class path) r records)
    ∙ some_of_either (names_of class path r) (names_in class path records) _ _ (own_or_other class path r) rest in
    elim (either (is_recorded_at class path r)) [ inl t ↦ all ∙ rw t refl | inr n ↦ all ∙ rw n refl ]

-- ---- labels

-- a label counts once for what it names, and for nothing else
pub named_once : (r : Recorded) (l : Label) (c : Class) → l.class ≡ Some c → is_recorded_at c.path l.path r ≡ false → (class path : List ℕ)
    → once_for r l class path ≡ once_under c.path l.path class path
named_once r l c is other class path =
    ap (λ o. cond (is_class_at class path l.path o && not (is_recorded_at class path r)) 1 0) is ∙ (elim (either (bytes_eq c.path class && bytes_eq l.path path)) [
      | inl t ↦
          let both = both_parts (bytes_eq c.path class) (bytes_eq l.path path) t in
          let own : is_recorded_at class path r ≡ false =
          (λ i. is_recorded_at (sym (same_bytes c.path class both.0) i) (sym (same_bytes l.path path both.1) i) r) ∙ other in
          rw (t, own) refl
      | inr n ↦ rw n refl
    ])

-- the label of a source names nothing
pub source_names_none : (r : Recorded) (l : Label) → l.class ≡ None → (class path : List ℕ) → once_for r l class path ≡ 0
source_names_none r l is class path = ap (λ o. cond (is_class_at class path l.path o && not (is_recorded_at class path r)) 1 0) is

-- nor does a record that names itself
pub own_names_none : (r : Recorded) (l : Label) (c : Class) → l.class ≡ Some c → is_recorded_at c.path l.path r ≡ true → (class path : List ℕ)
    → once_for r l class path ≡ 0
own_names_none r l c is own class path =
    ap (λ o. cond (is_class_at class path l.path o && not (is_recorded_at class path r)) 1 0) is ∙ (elim (either (bytes_eq c.path class && bytes_eq l.path path)) [
      | inl t ↦
          let both = both_parts (bytes_eq c.path class) (bytes_eq l.path path) t in
          let own_here : is_recorded_at class path r ≡ true =
          (λ i. is_recorded_at (sym (same_bytes c.path class both.0) i) (sym (same_bytes l.path path both.1) i) r) ∙ own in
          rw (t, own_here) refl
      | inr n ↦ rw n refl
    ])
