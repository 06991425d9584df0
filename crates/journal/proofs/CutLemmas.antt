-- A text cut at a byte (copied from `lines`).
use Rattle.std.proofs.Common.{◌≡◌, ℕ, zero, suc, ◌<◌, Bool, true, false, eqb, List, [], ◌∷◌, length, take, drop, get_or, Some, None, option_map, refl, ap, arith}
use Rattle.model.specs.Lines.{cut_at}

pub not_true : (b : Bool) → ((b ≡ true) → ⊥) → b ≡ false
not_true true h = absurd (h refl)
not_true false h = refl

pub cut-none : (c : ℕ) (s : List ℕ) → ((k : ℕ) → k < length s → eqb (get_or s k 0) c ≡ true → ⊥) → cut_at c s ≡ None
cut-none c [] h = refl
cut-none c (b ∷ s) h =
    rw (not_true _ (h 0 (omega arith))) (ap (option_map (λ (r : List ℕ × List ℕ). (b ∷ r.0, r.1))) (cut-none c s (λ k lt. h (suc k) (omega arith))))

pub cut-some : (c : ℕ) (s : List ℕ) (at : ℕ) → at < length s → eqb (get_or s at 0) c ≡ true → ((k : ℕ) → k < at → eqb (get_or s k 0) c ≡ true → ⊥)
    → cut_at c s ≡ Some (take at s, drop 1 (drop at s))
cut-some c [] at lt is h = absurd (omega arith)
cut-some c (b ∷ s) zero lt is h = rw is refl
cut-some c (b ∷ s) (suc at) lt is h =
    rw (not_true _ (h 0 (omega arith)))
    (ap (option_map (λ (r : List ℕ × List ℕ). (b ∷ r.0, r.1))) (cut-some c s at (omega arith) is (λ k lt. h (suc k) (omega arith))))
