-- Labels in the order of their paths, one for each.
use Rattle.std.proofs.Common.{◌≡◌, ℕ, suc, ◌<◌, Bool, true, false, inl, inr, refl, sym, ap, subst, ◌∙◌, arith, List, [], ◌∷◌, length, get_or, Contains}
use Rattle.std.specs.Prelude.{bytes_eq, All}
use Rattle.std.specs.declared.cmp.Ordering.{Ordering}
use Rattle.std.specs.declared.cmp.Ordering.TheVariants.{Less, Equal, Greater}
use Rattle.std.specs.Ordering.{is_lt, is_eq, nat_cmp, ordering_reverse}
use Rattle.std.specs.Cmp.{IsStrictWeakOrder}
use Rattle.std.specs.Cmp.Lexicographic.{slice_cmp, same_text}
use Rattle.std.proofs.lemmas.Cmp.{nat_list_cmp_total}
use Rattle.std.proofs.lemmas.Bool.{cases_order}
use Rattle.std.proofs.lemmas.List.{get_or_default}
use Rattle.std.proofs.lemmas.List.Sorted.{ranks_by}
use Rattle.std.proofs.lemmas.List.Elements.{All-cons, All-nil, All-head, All-tail, All-weaker}
use Rattle.std.proofs.lemmas.List.Kept.{AllPairs-cons, AllPairs-filter}
use Rattle.std.proofs.lemmas.Map.Text.{is_eq-slice_cmp}
use Rattle.model.specs.Archives.{bytes_before}
use Rattle.model.specs.Worlds.{Label}
use Rattle.model.specs.References.{class_before, least_label, with_label, labels_in_order, labels_of}
use Rattle.model.specs.Classes.{is_one_of}
use Rattle.model.proofs.BoolLemmas.{either}
use Rattle.records.specs.Recorded.{AreInPathOrder}

-- ---- paths

pub bytes_weak : IsStrictWeakOrder bytes_before
bytes_weak = ranks_by nat_list_cmp_total (λ x. x)

clash : (b : Bool) → b ≡ true → b ≡ false → ⊥
clash b t f = let e = sym t ∙ f in cc

pub irreflexive : (p : List ℕ) → bytes_before p p ≡ false
irreflexive p = elim (either (bytes_before p p)) [ inl t ↦ bytes_weak.one_way p p t | inr f ↦ f ]

pub goes_on : (p q r : List ℕ) → bytes_before p q ≡ true → bytes_before q r ≡ true → bytes_before p r ≡ true
goes_on p q r h k = elim (either (bytes_before p r)) [
  | inl t ↦ t
  | inr f ↦ absurd (clash (bytes_before p q) h (bytes_weak.chain p r q f (bytes_weak.one_way q r k)))
]

no_order : (r s : Ordering) → r ≡ ordering_reverse s → is_lt r ≡ false → is_lt s ≡ false → is_eq r ≡ true
no_order Less s e p q = cc
no_order Equal s e p q = refl
no_order Greater Less e p q = cc
no_order Greater Equal e p q = cc
no_order Greater Greater e p q = cc

-- one of two other paths goes before the other
pub other_way : (p q : List ℕ) → bytes_before p q ≡ false → bytes_eq p q ≡ false → bytes_before q p ≡ true
other_way p q h n = elim (either (bytes_before q p)) [
  | inl t ↦ t
  | inr f ↦
      let same : bytes_eq p q ≡ true = sym (is_eq-slice_cmp p q) ∙ no_order (slice_cmp nat_cmp p q) (slice_cmp nat_cmp q p) (nat_list_cmp_total.antisymm p q) h f in
      absurd (clash (bytes_eq p q) same n)
]

-- ---- a label before others

abbrev IsBefore : Label → Label → Type 0
IsBefore k l = bytes_before k.path l.path ≡ true

pub pairs_head : (l : Label) (ls : List Label) → AreInPathOrder (l ∷ ls) → All (IsBefore l) ls
pairs_head l ls h = λ k d lt. h 0 (suc k) d (omega arith) (omega (arith, lt))

pub pairs_tail : (l : Label) (ls : List Label) → AreInPathOrder (l ∷ ls) → AreInPathOrder ls
pairs_tail l ls h = λ i j d lt le. h (suc i) (suc j) d (omega (arith, lt)) (omega (arith, le))

-- of two labels of one path, the one that stays is of the path
pub least_path : (P : List ℕ → Type 0) (k l : Label) → P k.path → P l.path → P (least_label k l).path
least_path P k l p q = elim (either (class_before l.class k.class)) [ inl t ↦ rw t q | inr f ↦ rw f p ]

-- ---- a label put in

-- a label that goes before all goes before one put in
before_put : (first l : Label) (ls : List Label) → IsBefore first l → All (IsBefore first) ls → All (IsBefore first) (with_label l ls)
before_put first l [] h all = All-cons (IsBefore first) l [] h (All-nil (IsBefore first))
before_put first l (k ∷ ls) h all =
    let head : IsBefore first k = All-head (IsBefore first) k ls all in
    let rest : All (IsBefore first) ls = All-tail (IsBefore first) k ls all in
    elim (either (bytes_before k.path l.path)) [
      | inl t ↦ rw t (All-cons (IsBefore first) k (with_label l ls) head (before_put first l ls h rest))
      | inr f ↦ elim (either (bytes_eq k.path l.path)) [
        | inl same ↦ rw (f, same) (All-cons (IsBefore first) (least_label k l) ls (least_path (λ p. bytes_before first.path p ≡ true) k l head h) rest)
        | inr other ↦ rw (f, other) (All-cons (IsBefore first) l (k ∷ ls) h all)
      ]
    ]

-- a label before one goes before all that this one goes before
pub before_all : (k l : Label) (ls : List Label) → IsBefore k l → All (IsBefore l) ls → All (IsBefore k) ls
before_all k l ls h all = All-weaker (IsBefore l) (IsBefore k) (λ m n. goes_on k.path l.path m.path h n) ls all

pub with_label_in_order : (l : Label) (ls : List Label) → AreInPathOrder ls → AreInPathOrder (with_label l ls)
with_label_in_order l [] h = AllPairs-cons IsBefore l [] (All-nil (IsBefore l)) h
with_label_in_order l (k ∷ ls) h =
    let after : All (IsBefore k) ls = pairs_head k ls h in
    let rest : AreInPathOrder ls = pairs_tail k ls h in
    elim (either (bytes_before k.path l.path)) [
      | inl t ↦ rw t (AllPairs-cons IsBefore k (with_label l ls) (before_put k l ls t after) (with_label_in_order l ls rest))
      | inr f ↦ elim (either (bytes_eq k.path l.path)) [
        | inl same ↦
            let is : k.path ≡ l.path = same_text k.path l.path (sym same) in
            let least : (least_label k l).path ≡ k.path = least_path (λ p. p ≡ k.path) k l refl (sym is) in
            let all : All (IsBefore (least_label k l)) ls = subst (λ p. All (λ m. bytes_before p m.path ≡ true) ls) (sym least) after in
            rw (f, same) (AllPairs-cons IsBefore (least_label k l) ls all rest)
        | inr other ↦
            let before : IsBefore l k = other_way k.path l.path f other in
            rw (f, other) (AllPairs-cons IsBefore l (k ∷ ls) (All-cons (IsBefore l) k ls before (before_all l k ls before after)) h)
      ]
    ]

-- labels in order are so
pub labels_are_in_order : (ls : List Label) → AreInPathOrder (labels_in_order ls)
labels_are_in_order [] = λ i j d lt le. absurd (omega (arith, le))
labels_are_in_order (l ∷ ls) = with_label_in_order l (labels_in_order ls) (labels_are_in_order ls)

-- and those of some paths among them
pub chosen_in_order : (paths : List (List ℕ)) (ls : List Label) → AreInPathOrder ls → AreInPathOrder (labels_of paths ls)
chosen_in_order paths ls h = AllPairs-filter IsBefore (λ l. is_one_of paths l.path) ls h

-- ---- one label for a path

apart : (ls : List Label) → AreInPathOrder ls → (k l : Label) (i j : ℕ) → i < j → j < length ls → get_or ls i k ≡ k → get_or ls j l ≡ l → k.path ≡ l.path → ⊥
apart ls h k l i j lt le at_i at_j same =
    let first : get_or ls i l ≡ k = get_or_default ls i l k (omega (arith, lt, le)) ∙ at_i in
    let before : bytes_before (get_or ls i l).path (get_or ls j l).path ≡ true = h i j l lt le in
    let here : bytes_before k.path k.path ≡ true =
    sym (ap (λ (m : Label). bytes_before m.path (get_or ls j l).path) first ∙ ap (λ (m : Label). bytes_before k.path m.path) at_j ∙ ap (bytes_before k.path) (sym same)) ∙ before in
    clash (bytes_before k.path k.path) here (irreflexive k.path)

-- labels of one path are one
pub once : (ls : List Label) → AreInPathOrder ls → (k l : Label) → Contains ls k → Contains ls l → k.path ≡ l.path → k ≡ l
once ls h k l c d same = elim (cases_order c.0 d.0) [
  | inl is ↦ sym c.2 ∙ get_or_default ls c.0 k l c.1 ∙ ap (λ i. get_or ls i l) is ∙ d.2
  | inr (inl lt) ↦ absurd (apart ls h k l c.0 d.0 lt d.1 c.2 d.2 same)
  | inr (inr gt) ↦ absurd (apart ls h l k d.0 c.0 gt c.1 d.2 c.2 (sym same))
]
