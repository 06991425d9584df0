-- Pieces of a text.
use Rattle.std.proofs.Common.{Bool, true, false, not, ◌≡◌, ◌<◌, ℕ, zero, suc, List, [], ◌∷◌, length, take, refl, sym, ◌∙◌, ap, arith}

-- a piece that is empty stands at the end
pub take_none : (n : ℕ) (s : List ℕ) → 0 < n → take n s ≡ [] → s ≡ []
take_none n [] some none = refl
take_none zero (b ∷ s) some none = absurd (omega (arith, some))
take_none (suc n) (b ∷ s) some none = absurd (cc none)

-- a piece by its own length
pub take-length : (n : ℕ) (s : List ℕ) → take n s ≡ take (length (take n s)) s
take-length zero s = refl
take-length (suc n) [] = refl
take-length (suc n) (b ∷ s) = ap (λ (l : List ℕ). b ∷ l) (take-length n s)

pub not_false : (b : Bool) → not b ≡ false → b ≡ true
not_false true is = refl
not_false false is = absurd (cc is)

pub length_none : (s : List ℕ) → length s ≡ 0 → s ≡ []
length_none [] none = refl
length_none (b ∷ s) none = absurd (omega (arith, none))

pub same_piece : (hand s rest : List ℕ) (n : ℕ) → hand ≡ take n rest → s ≡ rest → hand ≡ take (length hand) s
same_piece hand s rest n is same = is ∙ take-length n rest ∙ ap (λ (l : List ℕ). take (length l) rest) (sym is)
    ∙ ap (λ (l : List ℕ). take (length hand) l) (sym same)

pub ended_piece : (hand s rest : List ℕ) (n : ℕ) → 0 < n → hand ≡ take n rest → s ≡ rest → length hand ≡ 0 → s ≡ []
ended_piece hand s rest n some is same none = same ∙ take_none n rest some (sym is ∙ length_none hand none)
