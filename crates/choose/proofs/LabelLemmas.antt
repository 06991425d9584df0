-- Labels in turn.
use Rattle.std.proofs.Common.{◌≡◌, ℕ, ◌≤◌, ◌⊎◌, zero, suc, true, false, inl, inr, refl, ◌∙◌, arith, List, [], ◌∷◌, length, drop}
use Rattle.std.specs.Prelude.{nat_lt}
use Rattle.std.proofs.lemmas.Bool.Decides.{nat_tests}
use Rattle.model.specs.Worlds.{Label}
use Rattle.model.specs.Orders.{list_before}
use Rattle.model.specs.Choices.{label_before}
use Rattle.model.proofs.BoolLemmas.{either}

-- the first labels part the lists, or what follows does
pub before_first : (x y : Label) (xs ys firsts seconds : List Label) → firsts ≡ x ∷ xs → seconds ≡ y ∷ ys → label_before x y ≡ true
    → list_before label_before firsts seconds ≡ true
unfolding list_before
before_first x y xs ys firsts seconds e f t = rw (e, f, t) refl

pub after_first : (x y : Label) (xs ys firsts seconds : List Label) → firsts ≡ x ∷ xs → seconds ≡ y ∷ ys → label_before x y ≡ false → label_before y x ≡ true
    → list_before label_before firsts seconds ≡ false
unfolding list_before
after_first x y xs ys firsts seconds e f n t = rw (e, f, n, t) refl

pub before_rest : (x y : Label) (xs ys firsts seconds : List Label) → firsts ≡ x ∷ xs → seconds ≡ y ∷ ys → label_before x y ≡ false → label_before y x ≡ false
    → list_before label_before xs ys ≡ list_before label_before firsts seconds
unfolding list_before
before_rest x y xs ys firsts seconds e f n m = rw (e, f, n, m) refl

less : (n : ℕ) → true ≡ nat_lt 0 (suc n)
less n = grind (arith, nat_tests)

not_less : (n : ℕ) → false ≡ nat_lt (suc n) 0
not_less n = grind (arith, nat_tests)

both_more : (m n : ℕ) → nat_lt m n ≡ nat_lt (suc m) (suc n)
both_more m n = elim (either (nat_lt m n)) [ inl t ↦ grind (arith, nat_tests) | inr f ↦ grind (arith, nat_tests) ]

-- where one list has ended, it goes before the other where that has not
pub before_end : (xs ys : List Label) (k : ℕ) → k ≤ length xs → k ≤ length ys → (k ≡ length xs) ⊎ (k ≡ length ys)
    → list_before label_before (drop k xs) (drop k ys) ≡ nat_lt (length xs) (length ys)
unfolding list_before
before_end [] [] zero a b h = refl
before_end [] (y ∷ ys) zero a b h = less (length ys)
before_end (x ∷ xs) [] zero a b h = not_less (length xs)
before_end (x ∷ xs) (y ∷ ys) zero a b h = elim h [ inl e ↦ absurd (omega (arith, e)) | inr e ↦ absurd (omega (arith, e)) ]
before_end [] ys (suc k) a b h = absurd (omega arith)
before_end (x ∷ xs) [] (suc k) a b h = absurd (omega arith)
before_end (x ∷ xs) (y ∷ ys) (suc k) a b h =
    before_end xs ys k (omega arith) (omega arith) (elim h [ inl e ↦ inl (omega (arith, e)) | inr e ↦ inr (omega (arith, e)) ])
    ∙ both_more (length xs) (length ys)
