-- Digits in lower case, looked up in a table.
use Rattle.std.proofs.Common.{◌≡◌, ℕ, zero, suc, replicate, ◌+◌, ◌-◌, ◌*◌, ◌/◌, ◌%◌, ◌<◌, inl, inr, true, List, []}
use Rattle.std.proofs.Common.{◌∷◌, ◌++◌, length, get_or, set, slice_index, take, refl, ap, sym, ◌∙◌, arith, get_or-set_other}
use Rattle.std.proofs.Common.{get_or-set_same, length-set}
use Rattle.std.specs.Prelude.{Bool}
use Rattle.std.specs.List.{list_all}
use Rattle.std.proofs.lemmas.Bool.{cases_lt, cases_eq, cases_Bool}
use Rattle.std.proofs.lemmas.List.{take_more, take_more_set, append_assoc, length-replicate}
use Rattle.std.proofs.lemmas.List.Folds.{list_all_at}
use Rattle.hex.specs.Hex.{encode_lower, encode_with, lower_digits, IsBytes}
use Rattle.tree_text.specs.TextReading.{is_lower_digit}
use Rattle.tree_text.specs.Digits.{AreValues}
use Rattle.tree_text.proofs.LowerDigits.{digit_of, digits_at_places}

-- ---- filling the table

-- the digits of two numbers differ
digits_differ : (v k : ℕ) → v < k → k < 16 → slice_index lower_digits v ≡ slice_index lower_digits k → ⊥
digits_differ v k less below same =
    let one : digit_of v ≡ digit_of k = sym (digits_at_places v (omega (arith, less, below))) ∙ same ∙ digits_at_places k below in
    grind (arith)

pub digit_below : (k : ℕ) → k < 16 → slice_index lower_digits k < 256
digit_below k below = let is = digits_at_places k below in grind (arith)

-- so many digits are in the table
pub record HasValues (values : List ℕ) (k : ℕ) : Type 0 where
  pub digits : (v : ℕ) → v < k → slice_index values (slice_index lower_digits v) ≡ v
  pub small : (c : ℕ) → slice_index values c < 16
  pub long : length values ≡ 256

zero_at : (n c : ℕ) → slice_index (replicate n 0) c ≡ 0
zero_at zero c = refl
zero_at (suc n) zero = refl
zero_at (suc n) (suc c) = zero_at n c

pub no_values : HasValues (replicate 256 0) 0
no_values = record {
  digits = λ v less. absurd (omega (arith, less));
  small = λ c. (let none = zero_at 256 c in omega (arith, none));
  long = (let zero : ℕ = 0 in length-replicate 256 zero);
}

-- the second digit of a small number is its own
pub own_digit : (k : ℕ) (out : List ℕ) → k < 16 → out ≡ encode_lower (k ∷ []) → get_or out 1 0 ≡ slice_index lower_digits k
unfolding encode_with
own_digit k out below written = ap (λ ds. get_or ds 1 0) written ∙ ap (slice_index lower_digits) (omega (arith, below))

pub next_value : (values : List ℕ) (k : ℕ) → k < 16 → HasValues values k → HasValues (set values (slice_index lower_digits k) k) (k + 1)
next_value values k below has =
    let long = has.long in
    let at = slice_index lower_digits k in
    let room : at < length values = omega (arith, long, digit_below k below) in
    record {
      digits = λ v less. elim (cases_lt v k) [
        | inl before ↦ get_or-set_other values at (slice_index lower_digits v) k 0 (digits_differ v k before below) ∙ has.digits v before
        | inr after ↦ (let is : v ≡ k = omega (arith, less, after) in rw is (get_or-set_same values at k 0 room))
      ];
      small = λ c. elim (cases_eq c at) [
        | inl same ↦ rw (same, get_or-set_same values at k 0 room) below
        | inr other ↦ rw (get_or-set_other values at c k 0 (λ (e : c ≡ at). other e)) (has.small c)
      ];
      long = length-set values at k ∙ long;
    }

-- ---- looking digits up

-- a digit in lower case is that of a value
value_of : (c : ℕ) → is_lower_digit c ≡ true → (v : ℕ) × (v < 16) × (slice_index lower_digits v ≡ c)
value_of c lower = elim (cases_lt c 58) [
  | inl number ↦ (
      let small : c - 48 < 16 = grind (arith) in
      let is : digit_of (c - 48) ≡ c = grind (arith) in
      (c - 48, small, digits_at_places (c - 48) small ∙ is))
  | inr letter ↦ (
      let small : c - 87 < 16 = grind (arith) in
      let is : digit_of (c - 87) ≡ c = grind (arith) in
      (c - 87, small, digits_at_places (c - 87) small ∙ is))
]

value_is : (values : List ℕ) (c : ℕ) → AreValues values → is_lower_digit c ≡ true → slice_index lower_digits (slice_index values c) ≡ c
value_is values c are lower =
    let v = value_of c lower in
    let found : slice_index values c ≡ v.0 = ap (slice_index values) (sym v.2) ∙ are.digits v.0 v.1 in
    ap (slice_index lower_digits) found ∙ v.2

encode_push : (first : List ℕ) (b : ℕ)
    → encode_lower (first ++ b ∷ []) ≡ encode_lower first ++ slice_index lower_digits (b / 16) ∷ slice_index lower_digits (b % 16) ∷ []
unfolding encode_with
encode_push [] b = refl
encode_push (f ∷ first) b = ap (λ rest. slice_index lower_digits (f / 16) ∷ slice_index lower_digits (f % 16) ∷ rest) (encode_push first b)

-- the byte of the next two digits is put behind those of the digits before
pub next_byte : (values digits bytes : List ℕ) (i : ℕ) → AreValues values → list_all is_lower_digit digits ≡ true
    → length digits ≡ 2 * length bytes → i < length bytes
    → encode_lower (take i bytes) ≡ take (2 * i) digits
    → encode_lower (take (i + 1)
    (set bytes i (slice_index values (slice_index digits (2 * i)) * 16 + slice_index values (slice_index digits (2 * i + 1)))))
    ≡ take (2 * (i + 1)) digits
next_byte values digits bytes i are lower long within before =
    let c = slice_index digits (2 * i) in
    let d = slice_index digits (2 * i + 1) in
    let high = slice_index values c in
    let low = slice_index values d in
    let b = high * 16 + low in
    let c_lower : is_lower_digit c ≡ true = all_at is_lower_digit digits (2 * i) lower (omega (arith, long, within)) in
    let d_lower : is_lower_digit d ≡ true = all_at is_lower_digit digits (2 * i + 1) lower (omega (arith, long, within)) in
    let small = are.small d in
    let upper : b / 16 ≡ high = omega (arith, small) in
    let under : b % 16 ≡ low = omega (arith, small) in
    let two : take (2 * (i + 1)) digits ≡ take (2 * i) digits ++ c ∷ d ∷ [] =
    take_two digits (2 * i) (2 * (i + 1)) (omega (arith, long, within)) (omega arith) in
    ap encode_lower (take_more_set bytes i b within)
    ∙ encode_push (take i bytes) b
    ∙ ap (λ n. encode_lower (take i bytes) ++ slice_index lower_digits n ∷ slice_index lower_digits (b % 16) ∷ []) upper
    ∙ ap (λ n. encode_lower (take i bytes) ++ slice_index lower_digits high ∷ slice_index lower_digits n ∷ []) under
    ∙ ap (λ x. encode_lower (take i bytes) ++ x ∷ slice_index lower_digits low ∷ []) (value_is values c are c_lower)
    ∙ ap (λ x. encode_lower (take i bytes) ++ c ∷ x ∷ []) (value_is values d are d_lower)
    ∙ ap (λ first. first ++ c ∷ d ∷ []) before
    ∙ sym two
  where
    all_at : (p : ℕ → Bool) (xs : List ℕ) (k : ℕ) → list_all p xs ≡ true → k < length xs → p (slice_index xs k) ≡ true
    all_at p xs k all within = elim (cases_Bool (p (slice_index xs k))) [
      | inl t ↦ t
      | inr f ↦ cc (sym all ∙ list_all_at p xs k 0 within f)
    ]

    take_two : (xs : List ℕ) (k n : ℕ) → k + 1 < length xs → n ≡ k + 2
        → take n xs ≡ take k xs ++ slice_index xs k ∷ slice_index xs (k + 1) ∷ []
    take_two xs k n within is =
        ap (λ m. take m xs) (is ∙ omega arith) ∙ take_more xs (k + 1) 0 within
        ∙ ap (λ first. first ++ slice_index xs (k + 1) ∷ []) (take_more xs k 0 (omega (arith, within)))
        ∙ append_assoc (take k xs) (slice_index xs k ∷ []) (slice_index xs (k + 1) ∷ [])

-- what is put is a byte
pub still_bytes : (values digits bytes : List ℕ) (i : ℕ) → AreValues values → IsBytes bytes → i < length bytes
    → IsBytes (set bytes i (slice_index values (slice_index digits (2 * i)) * 16 + slice_index values (slice_index digits (2 * i + 1))))
still_bytes values digits bytes i are all within j =
    let b = slice_index values (slice_index digits (2 * i)) * 16 + slice_index values (slice_index digits (2 * i + 1)) in
    let high = are.small (slice_index digits (2 * i)) in
    let low = are.small (slice_index digits (2 * i + 1)) in
    let small : b < 256 = omega (arith, high, low) in
    elim (cases_eq j i) [
      | inl same ↦ rw (same, get_or-set_same bytes i b 0 within) small
      | inr other ↦ rw (get_or-set_other bytes i j b 0 (λ (e : j ≡ i). other e)) (all j)
    ]
