-- A text cut at a byte.
use Rattle.std.proofs.Common.{◌≡◌, ℕ, zero, suc, ◌<◌, Bool, true, false, cond, eqb, ◌||◌, List, [], ◌∷◌, ◌++◌, length, take, drop, get_or, Option, Some, None, option_map, refl, sym, ap, ◌∙◌, arith, append_assoc, length-append}
use Rattle.std.proofs.lemmas.List.{take_all, take_at}
use Rattle.model.specs.Lines.{cut_at, split, onto_first}

pub not_true : (b : Bool) → ((b ≡ true) → ⊥) → b ≡ false
not_true true h = absurd (h refl)
not_true false h = refl

pub cut-none : (c : ℕ) (s : List ℕ) → ((k : ℕ) → k < length s → eqb (get_or s k 0) c ≡ true → ⊥) → cut_at c s ≡ None
cut-none c [] h = refl
cut-none c (b ∷ s) h =
    rw (not_true _ (h 0 (omega arith))) (ap (option_map (λ (r : List ℕ × List ℕ). (b ∷ r.0, r.1))) (cut-none c s (λ k lt. h (suc k) (omega arith))))

pub cut-some : (c : ℕ) (s : List ℕ) (at : ℕ) → at < length s → eqb (get_or s at 0) c ≡ true → ((k : ℕ) → k < at → eqb (get_or s k 0) c ≡ true → ⊥)
    → cut_at c s ≡ Some (take at s, drop 1 (drop at s))
cut-some c [] at lt is h = absurd (omega arith)
cut-some c (b ∷ s) zero lt is h = rw is refl
cut-some c (b ∷ s) (suc at) lt is h =
    rw (not_true _ (h 0 (omega arith)))
    (ap (option_map (λ (r : List ℕ × List ℕ). (b ∷ r.0, r.1))) (cut-some c s at (omega arith) is (λ k lt. h (suc k) (omega arith))))

-- the parts of a text, by what it is cut into
abbrev pub parts_by : ℕ → List ℕ → Option (List ℕ × List ℕ) → List (List ℕ)
parts_by c s None = s ∷ []
parts_by c s (Some r) = r.0 ∷ split c r.1

step : (t : Bool) (c b : ℕ) (s : List ℕ) (o : Option (List ℕ × List ℕ)) → split c s ≡ parts_by c s o
    → cond t ([] ∷ split c s) (onto_first b (split c s)) ≡ parts_by c (b ∷ s) (cond t (Some ([], s)) (option_map (λ r. (b ∷ r.0, r.1)) o))
step true c b s o e = refl
step false c b s None e = ap (onto_first b) e
step false c b s (Some r) e = ap (onto_first b) e

pub split-cut : (c : ℕ) (s : List ℕ) → split c s ≡ parts_by c s (cut_at c s)
split-cut c [] = refl
split-cut c (b ∷ s) = step (eqb b c) c b s (cut_at c s) (split-cut c s)

pub split-one : (c : ℕ) (s : List ℕ) → cut_at c s ≡ None → split c s ≡ s ∷ []
split-one c s e = split-cut c s ∙ ap (parts_by c s) e

pub split-more : (c : ℕ) (s a r : List ℕ) → cut_at c s ≡ Some (a, r) → split c s ≡ a ∷ split c r
split-more c s a r e = split-cut c s ∙ ap (parts_by c s) e

-- the first of some parts
pub taken-all : (n : ℕ) (all front : List (List ℕ)) (last : List ℕ) → all ≡ front ++ last ∷ [] → length front < n → front ++ last ∷ [] ≡ take n all
taken-all n all front last e h = rw e (sym (take_all n (front ++ last ∷ []) (omega (arith, length-append front (last ∷ [])))))

pub taken-front : (n : ℕ) (all front rest : List (List ℕ)) → all ≡ front ++ rest → length front ≡ n → front ≡ take n all
taken-front n all front rest e h = rw e (sym (take_at front rest n h))

pub parts-more : (all front rest others : List (List ℕ)) (part : List ℕ) → all ≡ front ++ rest → rest ≡ part ∷ others → all ≡ (front ++ part ∷ []) ++ others
parts-more all front rest others part e f = e ∙ ap (λ t. front ++ t) f ∙ sym (append_assoc front (part ∷ []) others)

pub or-false : (b : Bool) → (b || false) ≡ b
or-false true = refl
or-false false = refl
