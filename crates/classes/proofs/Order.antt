-- Texts in the order of bytes: what a sort gives is the one list in order.
use Rattle.std.proofs.Common.{◌≡◌, ℕ, suc, ◌+◌, ◌<◌, ◌≤◌, inl, inr, Bool, true, false, not, List, [], ◌∷◌, length, refl, ap, sym, subst, ◌∙◌, arith}
use Rattle.std.specs.Prelude.{bytes_eq, sum_by, if◌then◌else◌, slice_index_or}
use Rattle.std.specs.List.{list_all}
use Rattle.std.specs.Ordering.{is_lt, is_eq, nat_cmp, ordering_reverse}
use Rattle.std.specs.declared.cmp.Ordering.{Ordering}
use Rattle.std.specs.declared.cmp.Ordering.TheVariants.{Less, Equal, Greater}
use Rattle.std.proofs.lemmas.Map.Text.{is_eq-slice_cmp}
use Rattle.std.proofs.lemmas.List.Sums.{sum_by-cons, list_all-from_AllPass}
use Rattle.std.specs.Cmp.{IsStrictWeakOrder}
use Rattle.std.specs.Cmp.Lexicographic.{slice_cmp, same_text}
use Rattle.std.specs.List.Sorted.{IsPermutation, IsSorted}
use Rattle.std.proofs.lemmas.Cmp.{nat_list_cmp_total}
use Rattle.std.proofs.lemmas.List.Sorted.{sum_by-IsPermutation, sorted_far, ranks_by}
use Rattle.std.proofs.lemmas.Bool.{and_from, not_from_false}
use Rattle.model.specs.Archives.{bytes_before}
use Rattle.model.specs.Classes.{put_in, sorted}
use Rattle.model.proofs.BoolLemmas.{either, both_parts, bytes_same}

-- the order of bytes
weak : IsStrictWeakOrder bytes_before
weak = ranks_by nat_list_cmp_total (λ x. x)

-- whether x stands before none of these
abbrev not_after : List ℕ → List ℕ → Bool
not_after x y = not (bytes_before y x)

abbrev InOrder : List (List ℕ) → Type 0
InOrder [] = Unit {0}
InOrder (x ∷ xs) = (list_all (not_after x) xs ≡ true) × InOrder xs

-- how often z stands in a list
abbrev one_if : Bool → ℕ
one_if b = if b then 1 else 0

abbrev is_same : List ℕ → List ℕ → ℕ
is_same z x = one_if (bytes_eq x z)

abbrev times : List ℕ → List (List ℕ) → ℕ
times z xs = sum_by (is_same z) xs

-- ---- the order

not_true : (a : Bool) → not a ≡ true → a ≡ false
not_true true h = cc
not_true false h = refl

irreflexive : (x : List ℕ) → bytes_before x x ≡ false
irreflexive x = elim (either (bytes_before x x)) [ inl e ↦ weak.one_way x x e | inr e ↦ e ]

no_order : (r s : Ordering) → r ≡ ordering_reverse s → is_lt r ≡ false → is_lt s ≡ false → is_eq r ≡ true
no_order Less s e p q = cc
no_order Equal s e p q = refl
no_order Greater Less e p q = cc
no_order Greater Equal e p q = cc
no_order Greater Greater e p q = cc

same_place : (x y : List ℕ) → bytes_before x y ≡ false → bytes_before y x ≡ false → x ≡ y
same_place x y p q =
    same_text x y (sym (no_order (slice_cmp nat_cmp x y) (slice_cmp nat_cmp y x) (nat_list_cmp_total.antisymm x y) p q) ∙ is_eq-slice_cmp x y)

-- ---- counting

once : (z : List ℕ) → is_same z z ≡ 1
once z = rw (bytes_same z) refl

zero_step : (x y z : List ℕ) → bytes_before z y ≡ false → bytes_before x y ≡ true → (b : Bool) → b ≡ bytes_eq z x → one_if b ≡ 0
zero_step x y z p q true e =
    let clash : bytes_before x y ≡ false = ap (λ w. bytes_before w y) (sym (same_text z x e)) ∙ p in
    let wrong = sym q ∙ clash in
    cc wrong
zero_step x y z p q false e = refl

-- what stands before all of them is none of them
no_times : (x y : List ℕ) (zs : List (List ℕ)) → bytes_before x y ≡ true → list_all (not_after y) zs ≡ true → times x zs ≡ 0
no_times x y [] q h = refl
no_times x y (z ∷ zs) q h =
    let passes = both_parts (not (bytes_before z y)) (list_all (not_after y) zs) h in
    let here : is_same x z ≡ 0 = zero_step x y z (not_true (bytes_before z y) passes.0) q (bytes_eq z x) refl in
    omega (arith, sum_by-cons (is_same x) z zs, here, no_times x y zs q passes.1)

head_times : (x : List ℕ) (xs : List (List ℕ)) → times x (x ∷ xs) ≡ 1 + times x xs
head_times x xs = omega (arith, sum_by-cons (is_same x) x xs, once x)

from_head : (y : List ℕ) (ys : List (List ℕ)) → list_all (not_after y) ys ≡ true → list_all (not_after y) (y ∷ ys) ≡ true
from_head y ys h = and_from (not (bytes_before y y)) (list_all (not_after y) ys) (not_from_false (bytes_before y y) (irreflexive y)) h

-- lists in order that have each text equally often are the same
same_from_times : (xs ys : List (List ℕ)) → InOrder xs → InOrder ys → ((z : List ℕ) → times z xs ≡ times z ys) → xs ≡ ys
same_from_times [] [] p q h = refl
same_from_times [] (y ∷ ys) p q h = absurd (omega (arith, h y, head_times y ys))
same_from_times (x ∷ xs) [] p q h = absurd (omega (arith, h x, head_times x xs))
same_from_times (x ∷ xs) (y ∷ ys) p q h =
    elim (either (bytes_before x y)) [
      | inl e ↦ absurd (omega (arith, h x, head_times x xs, no_times x y (y ∷ ys) e (from_head y ys q.0)))
      | inr e ↦ elim (either (bytes_before y x)) [
        | inl f ↦ absurd (omega (arith, h y, head_times y ys, no_times y x (x ∷ xs) f (from_head x xs p.0)))
        | inr f ↦
            let same : x ≡ y = same_place x y e f in
            let others : (z : List ℕ) → times z xs ≡ times z ys = λ z. omega (arith, h z, sum_by-cons (is_same z) x xs, sum_by-cons (is_same z) y ys, ap (is_same z) same) in
            ap (λ w. w ∷ xs) same ∙ ap (λ ws. y ∷ ws) (same_from_times xs ys p.1 q.1 others)
      ]
    ]

-- ---- putting in

abbrev put_by : Bool → List ℕ → List ℕ → List (List ℕ) → List (List ℕ)
put_by b x y ys = if b then y ∷ put_in x ys else x ∷ y ∷ ys

times_put : (z x : List ℕ) (ys : List (List ℕ)) → times z (put_in x ys) ≡ is_same z x + times z ys
times_put z x [] = omega (arith, sum_by-cons (is_same z) x [])
times_put z x (y ∷ ys) =
    let P : Bool → Type 0 = λ b. times z (put_by b x y ys) ≡ is_same z x + times z (y ∷ ys) in
    let put : P true = omega (arith, sum_by-cons (is_same z) y (put_in x ys), sum_by-cons (is_same z) y ys, times_put z x ys) in
    let front : P false = omega (arith, sum_by-cons (is_same z) x (y ∷ ys)) in
    elim (either (bytes_before y x)) [ inl e ↦ subst P (sym e) put | inr e ↦ subst P (sym e) front ]

all_put : (p : List ℕ → Bool) (x : List ℕ) (ys : List (List ℕ)) → p x ≡ true → list_all p ys ≡ true → list_all p (put_in x ys) ≡ true
all_put p x [] h k = and_from (p x) true h refl
all_put p x (y ∷ ys) h k =
    let P : Bool → Type 0 = λ b. list_all p (put_by b x y ys) ≡ true in
    let passes = both_parts (p y) (list_all p ys) k in
    let put : P true = and_from (p y) (list_all p (put_in x ys)) passes.0 (all_put p x ys h passes.1) in
    let front : P false = and_from (p x) (list_all p (y ∷ ys)) h k in
    elim (either (bytes_before y x)) [ inl e ↦ subst P (sym e) put | inr e ↦ subst P (sym e) front ]

all_chain : (x y : List ℕ) (zs : List (List ℕ)) → bytes_before y x ≡ false → list_all (not_after y) zs ≡ true → list_all (not_after x) zs ≡ true
all_chain x y [] e h = refl
all_chain x y (z ∷ zs) e h =
    let passes = both_parts (not (bytes_before z y)) (list_all (not_after y) zs) h in
    and_from (not (bytes_before z x)) (list_all (not_after x) zs) (not_from_false (bytes_before z x) (weak.chain z y x (not_true (bytes_before z y) passes.0) e)) (all_chain x y zs e passes.1)

in_order_put : (x : List ℕ) (ys : List (List ℕ)) → InOrder ys → InOrder (put_in x ys)
in_order_put x [] h = (refl, tt)
in_order_put x (y ∷ ys) h =
    let P : Bool → Type 0 = λ b. InOrder (put_by b x y ys) in
    elim (either (bytes_before y x)) [
      | inl e ↦ subst P (sym e) (all_put (not_after y) x ys (not_from_false (bytes_before x y) (weak.one_way y x e)) h.0, in_order_put x ys h.1)
      | inr e ↦ subst P (sym e) (and_from (not (bytes_before y x)) (list_all (not_after x) ys) (not_from_false (bytes_before y x) e) (all_chain x y ys e h.0), h)
    ]

pub in_order_sorted : (xs : List (List ℕ)) → InOrder (sorted xs)
in_order_sorted [] = tt
in_order_sorted (x ∷ xs) = in_order_put x (sorted xs) (in_order_sorted xs)

pub times_sorted : (z : List ℕ) (xs : List (List ℕ)) → times z (sorted xs) ≡ times z xs
times_sorted z [] = refl
times_sorted z (x ∷ xs) = omega (arith, times_put z x (sorted xs), times_sorted z xs, sum_by-cons (is_same z) x xs)

-- ---- sorting

-- no text stands before one that is further to the front
abbrev Rises : List (List ℕ) → Type 0
Rises xs = (i j : ℕ) (d : List ℕ) → i ≤ j → j < length xs → bytes_before (slice_index_or xs j d) (slice_index_or xs i d) ≡ false

in_order_from_rises : (xs : List (List ℕ)) → Rises xs → InOrder xs
in_order_from_rises [] h = tt
in_order_from_rises (x ∷ xs) h = (
  list_all-from_AllPass (not_after x) xs (λ k d lt. not_from_false (bytes_before (slice_index_or xs k d) x) (h 0 (suc k) d (omega arith) (omega arith))),
  in_order_from_rises xs (λ i j d le lt. h (suc i) (suc j) d (omega arith) (omega arith)),
)

-- what a sort of texts gives
pub sort_gives : (xs ys : List (List ℕ)) → IsPermutation xs ys → IsSorted (slice_cmp nat_cmp) ys → ys ≡ sorted xs
sort_gives xs ys moved up =
    same_from_times ys (sorted xs) (in_order_from_rises ys (sorted_far bytes_before weak ys up)) (in_order_sorted xs)
    (λ z. sum_by-IsPermutation (is_same z) xs ys moved ∙ sym (times_sorted z xs))
