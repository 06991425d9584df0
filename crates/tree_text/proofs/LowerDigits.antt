-- Digits of base 16 in lower case: what they decode to encodes back to them.
use Rattle.std.proofs.Common.{◌≡◌, ℕ, zero, suc, ◌+◌, ◌*◌, ◌/◌, ◌%◌, ◌<◌, ◌==◌, ◌&&◌, Bool, true, false, cond, List, [], ◌∷◌, ◌++◌, length, slice_index, take, drop, refl, ap, sym, ◌∙◌, arith, inl, inr}
use Rattle.std.specs.Prelude.{Option, Some, None, Result, Ok, Err, nat_lt, if◌then◌else◌, take_while}
use Rattle.std.specs.List.{list_all, prefix_len}
use Rattle.std.specs.Result.{result_unwrap_or}
use Rattle.std.proofs.lemmas.Bool.{and_parts, cases_lt, cases_eq, eqb-true}
use Rattle.std.proofs.Math.Seq.{take-append_seam}
use Rattle.std.proofs.lemmas.List.{length-append, take-append-drop}
use Rattle.std.proofs.lemmas.List.Sums.{take_while-cons}
use Rattle.hex.specs.Hex.{◌>>=◌, decode_of, decode_pairs, digit_or_error, encode_lower, encode_with, hex_digit_value, lower_digits, pair_value, value_at}
use Rattle.hex.specs.declared.error.FromHexError.{FromHexError}
use Rattle.hex.proofs.HexLemmas.{decode_of-even, decode_of-odd}
use Rattle.tree_text.specs.TextReading.{is_lower_digit}

-- a test of each number below a bound
abbrev passes_below : (ℕ → Bool) → ℕ → Bool
passes_below test zero = true
passes_below test (suc n) = test n && passes_below test n

passes_below-at : (test : ℕ → Bool) (n k : ℕ) → passes_below test n ≡ true → k < n → test k ≡ true
passes_below-at test zero k h below = absurd (omega (arith, below))
passes_below-at test (suc n) k h below =
    let parts = and_parts (test n) (passes_below test n) h in
    elim (cases_lt k n) [
      | inl less ↦ passes_below-at test n k parts.1 less
      | inr top ↦ let e : k ≡ n = omega (arith, below, top) in rw e parts.0
    ]

-- the digit of a number below 16
abbrev pub digit_of : ℕ → ℕ
digit_of d = if nat_lt d 10 then d + 48 else d + 87

pub digits_at_places : (d : ℕ) → d < 16 → slice_index lower_digits d ≡ digit_of d
digits_at_places d h = eqb-true _ _ (passes_below-at (λ k. slice_index lower_digits k == digit_of k) 16 d refl h)

take-length-take : (n : ℕ) (xs : List ℕ) → take (length (take n xs)) xs ≡ take n xs
take-length-take zero xs = refl
take-length-take (suc n) [] = refl
take-length-take (suc n) (x ∷ xs) = ap (λ ys. x ∷ ys) (take-length-take n xs)

-- a beginning as long as that of the elements that pass
pub front_is : (p : ℕ → Bool) (xs front rest : List ℕ) → xs ≡ front ++ rest → length front ≡ length (take_while p xs)
    → front ≡ take_while p xs
front_is p xs front rest whole long =
    sym (take-append_seam front rest) ∙ ap (take (length front)) (sym whole) ∙ ap (λ n. take n xs) long ∙ take-length-take (prefix_len p xs) xs

-- a digit of the table is a digit in lower case
pub digit_is_lower : (d : ℕ) → d < 16 → is_lower_digit (slice_index lower_digits d) ≡ true
digit_is_lower d h = passes_below-at (λ k. is_lower_digit (slice_index lower_digits k)) 16 d refl h

-- a digit in lower case is that of its value
digit_again : (c v : ℕ) → hex_digit_value c ≡ Some v → is_lower_digit c ≡ true → slice_index lower_digits v ≡ c
digit_again c v h lower =
    let small : v < 16 = grind (arith) in
    let back : digit_of v ≡ c = grind (arith) in
    digits_at_places v small ∙ back

first_or_none : (p : ℕ → Bool) (x : ℕ) (ys : List ℕ) → list_all p ys ≡ true → (b : Bool) → p x ≡ b
    → list_all p (cond b (x ∷ ys) []) ≡ true
first_or_none p x ys h true e = rw (e, h) refl
first_or_none p x ys h false e = refl

-- the digits in front are all digits
pub take_while-list_all : (p : ℕ → Bool) (xs : List ℕ) → list_all p (take_while p xs) ≡ true
take_while-list_all p [] = refl
take_while-list_all p (x ∷ xs) = ap (list_all p) (take_while-cons p x xs) ∙ first_or_none p x (take_while p xs) (take_while-list_all p xs) (p x) refl

-- elements in front that all pass come first among those that do
take_while-append : (p : ℕ → Bool) (xs ys : List ℕ) → list_all p xs ≡ true → take_while p (xs ++ ys) ≡ xs ++ take_while p ys
take_while-append p [] ys h = refl
take_while-append p (x ∷ xs) ys h =
    let parts = and_parts (p x) (list_all p xs) h in
    take_while-cons p x (xs ++ ys)
    ∙ ap (λ b. cond b (x ∷ take_while p (xs ++ ys)) []) parts.0
    ∙ ap (λ zs. x ∷ zs) (take_while-append p xs ys parts.1)

-- the same in lengths, where the elements in front are the first n
pub length-take_while-past : (p : ℕ → Bool) (n : ℕ) (xs front rest : List ℕ) → front ≡ take n xs → rest ≡ drop n xs
    → list_all p front ≡ true → length (take_while p xs) + length rest ≡ length xs + length (take_while p rest)
length-take_while-past p n xs front rest is_front is_rest h =
    let whole : xs ≡ front ++ rest = sym (take-append-drop n xs) ∙ ap (λ zs. zs ++ drop n xs) (sym is_front) ∙ ap (λ zs. front ++ zs) (sym is_rest) in
    let long : length xs ≡ length front + length rest = ap length whole ∙ length-append front rest in
    let passed : length (take_while p xs) ≡ length front + length (take_while p rest) =
    ap (λ zs. length (take_while p zs)) whole ∙ ap length (take_while-append p front rest h) ∙ length-append front (take_while p rest) in
    omega (arith, long, passed)

-- what a value after `>>=` shows
bound : {A B : Type 0} (r : Result A FromHexError) (f : A → Result B FromHexError) (y : B) → (r >>= f) ≡ Ok y
    → (x : A) × (r ≡ Ok x) × (f x ≡ Ok y)
bound (Ok x) f y h = (x, refl, h)
bound (Err e) f y h = cc h

digit_read : (c i : ℕ) (o : Option ℕ) (v : ℕ) → digit_or_error c i o ≡ Ok v → o ≡ Some v
digit_read c i (Some w) v h = ap Some (ap (λ (r : Result ℕ FromHexError). result_unwrap_or r 0) h)
digit_read c i None v h = cc h

digit_small : (c v : ℕ) → hex_digit_value c ≡ Some v → v < 16
digit_small c v h = grind (arith)

encode_pairs : (i : ℕ) (s bytes : List ℕ) → decode_pairs i s ≡ Ok bytes → list_all is_lower_digit s ≡ true
    → encode_lower bytes ≡ s
unfolding decode_pairs encode_with
encode_pairs i [] bytes h lower = ap encode_lower (sym (ap (λ (r : Result (List ℕ) FromHexError). result_unwrap_or r []) h))
encode_pairs i (a ∷ []) bytes h lower = cc h
encode_pairs i (a ∷ b ∷ rest) bytes h lower =
    let pair = bound (pair_value a b i) _ bytes h in
    let high = bound (value_at a i) _ pair.0 pair.1 in
    let low = bound (value_at b (i + 1)) _ pair.0 high.2 in
    let others = bound (decode_pairs (i + 2) rest) _ bytes pair.2 in
    let whole : bytes ≡ pair.0 ∷ others.0 = sym (ap (λ (r : Result (List ℕ) FromHexError). result_unwrap_or r []) others.2) in
    let byte : pair.0 ≡ high.0 * 16 + low.0 = sym (ap (λ (r : Result ℕ FromHexError). result_unwrap_or r 0) low.2) in
    let is_high = digit_read a i (hex_digit_value a) high.0 high.1 in
    let is_low = digit_read b (i + 1) (hex_digit_value b) low.0 low.1 in
    let first = and_parts (is_lower_digit a) (list_all is_lower_digit (b ∷ rest)) lower in
    let second = and_parts (is_lower_digit b) (list_all is_lower_digit rest) first.1 in
    let small : low.0 < 16 = digit_small b low.0 is_low in
    let upper : pair.0 / 16 ≡ high.0 = omega (arith, byte, small) in
    let under : pair.0 % 16 ≡ low.0 = omega (arith, byte, small) in
    let tail = encode_pairs (i + 2) rest others.0 others.1 second.1 in
    ap encode_lower whole
    ∙ ap (λ n. slice_index lower_digits n ∷ slice_index lower_digits (pair.0 % 16) ∷ encode_lower others.0) upper
    ∙ ap (λ n. slice_index lower_digits high.0 ∷ slice_index lower_digits n ∷ encode_lower others.0) under
    ∙ ap (λ c. c ∷ slice_index lower_digits low.0 ∷ encode_lower others.0) (digit_again a high.0 is_high first.0)
    ∙ ap (λ c. a ∷ c ∷ encode_lower others.0) (digit_again b low.0 is_low second.0)
    ∙ ap (λ cs. a ∷ b ∷ cs) tail

-- what digits in lower case decode to encodes back to them
pub encode_lower-decode_of : (s bytes : List ℕ) → decode_of s ≡ Ok bytes → list_all is_lower_digit s ≡ true
    → encode_lower bytes ≡ s
encode_lower-decode_of s bytes h lower =
    elim (cases_eq (length s % 2) 1) [
      | inl odd ↦ cc (sym h ∙ decode_of-odd s odd)
      | inr even ↦ encode_pairs 0 s bytes (sym (decode_of-even s (omega (arith, even))) ∙ h) lower
    ]
