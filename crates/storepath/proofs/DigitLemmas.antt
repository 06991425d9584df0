-- Numbers by their digits to base 32, the highest first.
use Rattle.std.proofs.Common.{◌≡◌, ℕ, zero, suc, ◌+◌, ◌-◌, ◌*◌, ◌/◌, ◌%◌, ◌^◌, ◌<◌, ◌≤◌, Bool, true, List, [], ◌∷◌, ◌++◌, length, get_or, take, refl, sym, ◌∙◌, inl, inr, ◌⊎◌, arith, add-one, ◌==◌}
use Rattle.std.specs.List.{position, position_or_len}
use Rattle.std.specs.Prelude.{Some, None, nat_lt}
use Rattle.std.proofs.lemmas.Bool.{false≢true}
use Rattle.std.proofs.lemmas.Bool.Decides.{Decides-eqb, Decides-ltb}
use Rattle.std.proofs.lemmas.List.Sums.{fails_before_first}
use Rattle.std.proofs.lemmas.List.Quantifiers.{position-Some}
use Rattle.std.proofs.Math.Nat.{div-div-eq-div-mul, div-one, pow-suc, pow-succ', pow-zero}
use Rattle.std.proofs.lemmas.List.{take_more, get_or_append_left, get_or_at, length_push}
use Rattle.model.specs.Paths.{digits_of, digits_32}

pub length-digits_of : (k n : ℕ) → length (digits_of k n) ≡ k
unfolding digits_of
length-digits_of zero n = refl
length-digits_of (suc k) n = omega (arith, length_push (digits_of k (n / 32)) (get_or digits_32 (n % 32) 0), length-digits_of k (n / 32))

-- the lowest digit is the last
pub digits_of-push : (k m n r : ℕ) → n ≡ 32 * m + r → r < 32 → digits_of (k + 1) n ≡ digits_of k m ++ get_or digits_32 r 0 ∷ []
unfolding digits_of
digits_of-push k m n r e h =
    let high : n / 32 ≡ m = omega arith in
    let low : n % 32 ≡ r = omega arith in
    rw (add-one k, high, low) refl

-- the digits, one by one
pub get_or-digits_of : (k n i j : ℕ) → i + (j + 1) ≡ k → get_or (digits_of k n) i 0 ≡ get_or digits_32 (n / 32 ^ j % 32) 0
unfolding digits_of
get_or-digits_of zero n i j e = absurd (omega arith)
get_or-digits_of (suc k) n i zero e =
    let last : i ≡ k = omega arith in
    rw (last, pow-zero 32, div-one n) (get_or_at (digits_of k (n / 32)) (get_or digits_32 (n % 32) 0) [] 0 k (length-digits_of k (n / 32)))
get_or-digits_of (suc k) n i (suc j) e =
    let last : ℕ = get_or digits_32 (n % 32) 0 in
    let long : i < length (digits_of k (n / 32)) = omega (arith, length-digits_of k (n / 32)) in
    get_or_append_left (digits_of k (n / 32)) (last ∷ []) 0 i long ∙ get_or-digits_of k (n / 32) i j (omega arith)
    ∙ rw (div-div-eq-div-mul n 32 (32 ^ j), pow-succ' 32 j) refl

at_or_before : (i j : ℕ) → (i ≤ j) ⊎ (j < i)
at_or_before i j = grind arith

-- what passes stands at some position
position_finds : (test : ℕ → Bool) (xs : List ℕ) (j : ℕ) → j < length xs → test (get_or xs j 0) ≡ true → position test xs ≡ None → ⊥
position_finds test xs j h found none =
    elim (at_or_before (position_or_len test xs) j) [
      | inl le ↦
          let here : nat_lt (position_or_len test xs) (length xs) ≡ true = (Decides-ltb (position_or_len test xs) (length xs)).1 (omega arith) in
          let some : Some (position_or_len test xs) ≡ None = rw here at none in cc
      | inr before ↦ false≢true (sym (fails_before_first test xs j 0 before) ∙ found)
    ]

-- a character that is no digit is in the text of no number
pub not_a_digit : (character : ℕ) → position (λ digit. digit == character) digits_32 ≡ None → (k n i : ℕ) → i < k → get_or (digits_of k n) i 0 ≡ character → ⊥
not_a_digit character none k n i h e =
    let digit : ℕ = n / 32 ^ (k - 1 - i) % 32 in
    let is = get_or-digits_of k n i (k - 1 - i) (omega arith) in
    position_finds (λ d. d == character) digits_32 digit (omega arith) ((Decides-eqb (get_or digits_32 digit 0) character).1 (sym is ∙ e)) none

-- a character that is a digit
pub is_digit : (character digit : ℕ) → position (λ d. d == character) digits_32 ≡ Some digit → (digit < 32) × (get_or digits_32 digit 0 ≡ character)
is_digit character digit some =
    let found = position-Some (λ d. d == character) digits_32 digit 0 some in
    (found.0, (Decides-eqb (get_or digits_32 digit 0) character).0 found.1)

pub small_number : (i m digit n : ℕ) → m < 32 ^ i → digit < 32 → n ≡ 32 * m + digit → n < 32 ^ (i + 1)
small_number i m digit n h small e = rw (add-one i, pow-suc 32 i) (omega (arith, h))

-- one more digit is read
pub read_digit : (text : List ℕ) (i m n digit : ℕ) → i < length text → digit < 32 → get_or digits_32 digit 0 ≡ get_or text i 0 → n ≡ 32 * m + digit
    → digits_of i m ≡ take i text → digits_of (i + 1) n ≡ take (i + 1) text
read_digit text i m n digit h small is e read =
    digits_of-push i m n digit e small ∙ rw (read, is) (sym (take_more text i 0 h))
