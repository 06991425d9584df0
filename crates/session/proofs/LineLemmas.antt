-- Lines cut from bytes, and the bytes that are held of one.
use Rattle.std.proofs.Common.{◌≡◌, ℕ, zero, suc, ◌+◌, ◌-◌, ◌<◌, ◌≤◌, List, [], ◌∷◌, ◌++◌, length, take, refl, sym, ap, ◌∙◌, arith, length-take}
use Rattle.std.proofs.lemmas.List.{take_all}
use Rattle.model.specs.Lines.{lines_of, onto_first}
use Rattle.session.specs.Serving.{HasNoNewline}
use Rattle.model.specs.Talk.{Seen, parsed_of}
use Rattle.std.proofs.Common.{inl, inr, add-one}
use Rattle.std.proofs.lemmas.Bool.{cases_lt, lt-ltb}
use Rattle.model.specs.declared.refusal.Refusal.TheVariants.{TooLarge}
use Rattle.model.specs.ParsedLines.{Refuses}
use Rattle.model.specs.Limits.{longest_line}

-- a newline ends a line
pub lines-newline : (p more : List ℕ) → HasNoNewline p → lines_of (p ++ 10 ∷ more) ≡ p ∷ lines_of more
lines-newline [] more h = refl
lines-newline (b ∷ p) more h = rw h.0 (ap (onto_first b) (lines-newline p more h.1))

-- the last line may lack it
pub lines-last : (b : ℕ) (p : List ℕ) → HasNoNewline (b ∷ p) → lines_of (b ∷ p) ≡ (b ∷ p) ∷ []
lines-last b [] h = rw h.0 refl
lines-last b (c ∷ p) h = rw h.0 (ap (onto_first b) (lines-last c p h.1))

pub HasNoNewline-append : (p q : List ℕ) → HasNoNewline p → HasNoNewline q → HasNoNewline (p ++ q)
HasNoNewline-append [] q hp hq = hq
HasNoNewline-append (b ∷ p) q hp hq = (hp.0, HasNoNewline-append p q hp.1 hq)

-- cutting twice at one place is cutting once
pub take_cut : (n : ℕ) (p b : List ℕ) → take n (take n p ++ b) ≡ take n (p ++ b)
take_cut zero p b = refl
take_cut (suc n) [] b = refl
take_cut (suc n) (x ∷ p) b = ap (λ t. x ∷ t) (take_cut n p b)

pub take_append : (n : ℕ) (a b : List ℕ) → length a ≤ n → take n (a ++ b) ≡ a ++ take (n - length a) b
take_append n [] b h = ap (λ k. take k b) (omega arith)
take_append zero (x ∷ a) b h = absurd (omega arith)
take_append (suc n) (x ∷ a) b h = ap (λ t. x ∷ t) (take_append n a b (omega arith) ∙ ap (λ k. a ++ take k b) (omega arith))

pub held-more : (n : ℕ) (p b held : List ℕ) → held ≡ take n p → held ++ take (n - length held) b ≡ take n (p ++ b)
held-more n p b held e =
    let small : length held ≤ n = omega (arith, ap length e, length-take n p) in
    sym (take_append n held b small) ∙ rw e (take_cut n p b)

parsed_of-long : (seen : Seen) (p : List ℕ) → longest_line < length p → parsed_of seen p ≡ Refuses TooLarge
parsed_of-long seen p h = rw (lt-ltb longest_line (length p) h) refl

-- what is held of a line reads as the line does
pub parsed_of-held : (seen : Seen) (p : List ℕ) → parsed_of seen (take (longest_line + 1) p) ≡ parsed_of seen p
parsed_of-held seen p = elim (cases_lt longest_line (length p)) [
  | inl h ↦ parsed_of-long seen (take (longest_line + 1) p) (omega (arith, length-take (longest_line + 1) p)) ∙ sym (parsed_of-long seen p h)
  | inr h ↦ ap (parsed_of seen) (take_all (longest_line + 1) p (omega arith))
]

nothing_taken : (n : ℕ) (p : List ℕ) → [] ≡ take (suc n) p → p ≡ []
nothing_taken n [] h = refl
nothing_taken n (b ∷ p) h = absurd (omega (arith, ap length h))

pub nothing-held : (n : ℕ) (p : List ℕ) → [] ≡ take (n + 1) p → p ≡ []
nothing-held n p h = nothing_taken n p (rw add-one at h)
