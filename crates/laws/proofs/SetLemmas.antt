-- Ascending lists: those with the same members are the same, and the set of a list is one.
use Rattle.std.proofs.Common.{◌≡◌, ℕ, Bool, true, false, inl, inr, refl, sym, ◌∙◌, ap, subst, List, [], ◌∷◌}
use Rattle.std.specs.Prelude.{filter}
use Rattle.std.specs.Cmp.{IsStrictWeakOrder}
use Rattle.std.proofs.lemmas.Cmp.{nat_list_cmp_total}
use Rattle.std.proofs.lemmas.List.Sorted.{ranks_by}
use Rattle.model.specs.Archives.{bytes_before}
use Rattle.model.specs.Orders.{placed, set_of}
use Rattle.model.proofs.BoolLemmas.{either}
use Rattle.laws.proofs.MemberLemmas.{In, from_filter, in_filter, from_placed, from_set, in_set}
use Rattle.laws.proofs.OrderLemmas.{bytes_apart}

-- each stands before all that follow
abbrev pub Ascends : {X : Type 0} → (X → X → Bool) → List X → Type 0
Ascends before [] = Unit {0}
Ascends {X = X} before (x ∷ xs) = ((y : X) → In y xs → before x y ≡ true) × Ascends before xs

pub clash : (b : Bool) → b ≡ true → b ≡ false → ⊥
clash b t f = let e = sym t ∙ f in cc

pub irreflexive : {X : Type 0} (before : X → X → Bool) → IsStrictWeakOrder before → (x : X) → before x x ≡ false
irreflexive before w x = elim (either (before x x)) [ inl t ↦ w.one_way x x t | inr f ↦ f ]

pub goes_on : {X : Type 0} (before : X → X → Bool) → IsStrictWeakOrder before → (x y z : X) → before x y ≡ true → before y z ≡ true → before x z ≡ true
goes_on before w x y z h k = elim (either (before x z)) [ inl t ↦ t | inr f ↦ absurd (clash (before x y) h (w.chain x z y f (w.one_way y z k))) ]

-- ascending lists with the same members are the same
pub same_members : {X : Type 0} (before : X → X → Bool) → IsStrictWeakOrder before → (xs ys : List X) → Ascends before xs → Ascends before ys
    → ((z : X) → In z xs → In z ys) → ((z : X) → In z ys → In z xs) → xs ≡ ys
same_members before w [] [] a b h k = refl
same_members before w [] (y ∷ ys) a b h k = absurd (k y (inl refl))
same_members before w (x ∷ xs) [] a b h k = absurd (h x (inl refl))
same_members {X} before w (x ∷ xs) (y ∷ ys) a b h k =
    let heads : x ≡ y = elim (h x (inl refl)) [
      | inl e ↦ sym e
      | inr r ↦ elim (k y (inl refl)) [
        | inl e ↦ e
        | inr q ↦ absurd (clash (before x y) (a.0 y q) (w.one_way y x (b.0 x r)))
      ]
    ] in
    let down : (z : X) → In z xs → In z ys = λ z i. elim (h z (inr i)) [
      | inl e ↦ (let t : before x x ≡ true = subst (λ v. before x v ≡ true) (sym (heads ∙ e)) (a.0 z i) in
          absurd (clash (before x x) t (irreflexive before w x)))
      | inr r ↦ r
    ] in
    let up : (z : X) → In z ys → In z xs = λ z i. elim (k z (inr i)) [
      | inl e ↦ (let t : before y y ≡ true = subst (λ v. before y v ≡ true) (sym (sym heads ∙ e)) (b.0 z i) in
          absurd (clash (before y y) t (irreflexive before w y)))
      | inr r ↦ r
    ] in
    ap (λ v. v ∷ xs) heads ∙ ap (λ vs. y ∷ vs) (same_members before w xs ys a.1 b.1 down up)

placed_ascends : {X : Type 0} (before : X → X → Bool) → IsStrictWeakOrder before → (x : X) (ys : List X) → Ascends before ys
    → Ascends before (placed before x ys)
unfolding placed
placed_ascends before w x [] a = (λ y h. absurd h, tt)
placed_ascends before w x (y ∷ ys) a = elim (either (before x y)) [
  | inl t ↦ rw t (λ z h. elim h [ inl e ↦ subst (λ v. before x v ≡ true) e t | inr r ↦ goes_on before w x y z t (a.0 z r) ], a)
  | inr f ↦ elim (either (before y x)) [
    | inl t ↦ rw (f, t) (
      λ z h. elim (from_placed before x z ys h) [ inl e ↦ subst (λ v. before y v ≡ true) e t | inr r ↦ a.0 z r ],
      placed_ascends before w x
          ys a.1,
    )
    | inr g ↦ rw (f, g) a
  ]
]

pub set_ascends : {X : Type 0} (before : X → X → Bool) → IsStrictWeakOrder before → (xs : List X) → Ascends before (set_of before xs)
unfolding set_of
set_ascends before w [] = tt
set_ascends before w (x ∷ xs) = placed_ascends before w x (set_of before xs) (set_ascends before w xs)

-- ---- texts

pub bytes_weak : IsStrictWeakOrder bytes_before
bytes_weak = ranks_by nat_list_cmp_total (λ x. x)

-- what is a member of a list is one of its set
in_text_set : (x : List ℕ) (xs : List (List ℕ)) → In x xs → In x (set_of bytes_before xs)
in_text_set x xs h =
    let w = in_set bytes_before x xs h in
    let same : x ≡ w.0 = elim w.2 [ inl e ↦ e | inr tie ↦ bytes_apart x w.0 tie.0 tie.1 ] in
    subst (λ y. In y (set_of bytes_before xs)) (sym same) w.1

-- lists with the same members have one set
pub same_set : (xs ys : List (List ℕ)) → ((x : List ℕ) → In x xs → In x ys) → ((x : List ℕ) → In x ys → In x xs)
    → set_of bytes_before xs ≡ set_of bytes_before ys
same_set xs ys there back =
    same_members bytes_before bytes_weak (set_of bytes_before xs) (set_of bytes_before ys)
    (set_ascends bytes_before bytes_weak xs) (set_ascends bytes_before bytes_weak ys)
    (λ x h. in_text_set x ys (there x (from_set bytes_before x xs h))) (λ x h. in_text_set x xs (back x (from_set bytes_before x ys h)))

-- so have those of their members that pass a test
pub same_filtered : (p : List ℕ → Bool) (xs ys : List (List ℕ)) → ((x : List ℕ) → In x xs → In x ys) → ((x : List ℕ) → In x ys → In x xs)
    → set_of bytes_before (filter p xs) ≡ set_of bytes_before (filter p ys)
same_filtered p xs ys there back =
    same_set (filter p xs) (filter p ys)
    (λ x h. let w = from_filter p x xs h in in_filter p x ys (there x w.0) w.1)
    (λ x h. let w = from_filter p x ys h in in_filter p x xs (back x w.0) w.1)
