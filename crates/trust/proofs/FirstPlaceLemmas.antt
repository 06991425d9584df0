-- The first place with a name, and names that have none.
use Rattle.std.proofs.Common.{◌≡◌, ℕ, zero, suc, ◌+◌, ◌<◌, Bool, true, false, inl, inr, List, [], ◌∷◌, length, refl, sym, ◌∙◌, ap, arith, get_or, Some, None}
use Rattle.std.specs.Prelude.{bytes_eq, position, if◌then◌else◌, is_some, nat_lt}
use Rattle.std.specs.List.{position_or_len}
use Rattle.std.proofs.lemmas.List.Quantifiers.{position-Some}
use Rattle.std.proofs.lemmas.Bool.Decides.{nat_tests}
use Rattle.model.specs.Reach.{is_among}
use Rattle.model.proofs.BoolLemmas.{either}

-- the place of a user: the first with his name
abbrev pub IsPlace : List (List ℕ) → List ℕ → ℕ → Type 0
IsPlace [] u i = ⊥
IsPlace (name ∷ names) u zero = bytes_eq name u ≡ true
IsPlace (name ∷ names) u (suc i) = (bytes_eq name u ≡ false) × IsPlace names u i

first_place : (names : List (List ℕ)) (u : List ℕ) (i : ℕ) → i < length names → bytes_eq (get_or names i []) u ≡ true
    → ((k : ℕ) → k < i → bytes_eq (get_or names k []) u ≡ false) → IsPlace names u i
first_place [] u i h t f = absurd (omega arith)
first_place (name ∷ names) u zero h t f = t
first_place (name ∷ names) u (suc i) h t f = (f zero (omega arith), first_place names u i (omega arith) t (λ k l. f (suc k) (omega arith)))

pub place_found : (names : List (List ℕ)) (u : List ℕ) (i : ℕ) → position (λ n. bytes_eq n u) names ≡ Some i → IsPlace names u i
place_found names u i e =
    let found = position-Some (λ n. bytes_eq n u) names i [] e in
    first_place names u i found.0 found.1 found.2

pub place_below : (names : List (List ℕ)) (u : List ℕ) (i : ℕ) → position (λ n. bytes_eq n u) names ≡ Some i → i < length names
place_below names u i e = (position-Some (λ n. bytes_eq n u) names i [] e).0

pub place_is_among : (names : List (List ℕ)) (u : List ℕ) (i : ℕ) → IsPlace names u i → is_among u names ≡ true
place_is_among [] u i p = absurd p
place_is_among (name ∷ names) u zero p = rw p refl
place_is_among (name ∷ names) u (suc i) p = rw (p.0, place_is_among names u i p.1) refl

zero_first : (n : ℕ) → nat_lt 0 (suc n) ≡ true
zero_first n = grind (arith, nat_tests)

both_more : (m n : ℕ) → nat_lt (1 + m) (suc n) ≡ nat_lt m n
both_more m n = grind (arith, nat_tests)

-- nobody has the name where no place is found
found_any : (names : List (List ℕ)) (u : List ℕ) → nat_lt (position_or_len (λ n. bytes_eq n u) names) (length names) ≡ is_among u names
found_any [] u = refl
found_any (name ∷ names) u = elim (either (bytes_eq name u)) [
  | inl t ↦ rw t (zero_first (length names))
  | inr f ↦ rw f (both_more (position_or_len (λ n. bytes_eq n u) names) (length names) ∙ found_any names u)
]

some_if : (b : Bool) (n : ℕ) → is_some (if b then Some n else None) ≡ b
some_if true n = refl
some_if false n = refl

position_any : (names : List (List ℕ)) (u : List ℕ) → is_some (position (λ n. bytes_eq n u) names) ≡ is_among u names
position_any names u = some_if (nat_lt (position_or_len (λ n. bytes_eq n u) names) (length names)) (position_or_len (λ n. bytes_eq n u) names)
    ∙ found_any names u

pub no_place : (names : List (List ℕ)) (u : List ℕ) → position (λ n. bytes_eq n u) names ≡ None → is_among u names ≡ false
no_place names u e = sym (position_any names u) ∙ ap is_some e
