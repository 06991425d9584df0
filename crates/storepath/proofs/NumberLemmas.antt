-- Numbers by their bytes, the lowest first.
use Rattle.std.proofs.Common.{◌≡◌, ℕ, zero, suc, ◌+◌, ◌-◌, ◌*◌, ◌/◌, ◌%◌, ◌^◌, ◌<◌, ◌≤◌, List, [], ◌∷◌, ◌++◌, length, get_or, set, take, drop, refl, sym, ◌∙◌, ap, subst, arith, add-one, inl, inr, ◌⊎◌, ◌≢◌, true, replicate, lit<}
use Rattle.std.specs.Prelude.{nat_lt}
use Rattle.std.specs.List.{list_all}
use Rattle.std.proofs.lemmas.Bool.{and_parts}
use Rattle.std.proofs.lemmas.Bool.Decides.{Decides-ltb}
use Rattle.std.proofs.Math.Nat.{add_comm, add-mul-div_left, add-mul-mod_self_left, div-div-eq-div-mul, div-one, mul-suc, mul-zero, pow-suc, pow-succ', pow-zero, zero-div}
use Rattle.std.proofs.lemmas.Nat.{pow-add, pow_pos}
use Rattle.std.proofs.lemmas.List.{get_or-set_same, take_more, take_more_set, length-set, length-take-le, take_all, get_or-set_other, set_past}
use Rattle.model.specs.Paths.{number_of, IsFolded}
use Rattle.model.specs.Archives.{AreBytes}

-- a byte, and the bytes above it
number_of-drop : (xs : List ℕ) (p : ℕ) → number_of (drop p xs) ≡ get_or xs p 0 + 256 * number_of (drop (p + 1) xs)
unfolding number_of
number_of-drop [] zero = refl
number_of-drop [] (suc p) = rw (add-one (suc p)) refl
number_of-drop (x ∷ xs) zero = refl
number_of-drop (x ∷ xs) (suc p) = rw (add-one (suc p)) (rw (add-one p) at (number_of-drop xs p))

-- what is left of a number without its lowest bytes
number_of-above : (xs : List ℕ) (p : ℕ) → AreBytes xs → number_of xs / 256 ^ p ≡ number_of (drop p xs)
unfolding number_of
number_of-above xs zero h = div-one (number_of xs)
number_of-above [] (suc p) h = zero-div (256 ^ suc p)
number_of-above (x ∷ xs) (suc p) h =
    let first = h 0 in
    let rest : (x + 256 * number_of xs) / 256 ≡ number_of xs = omega arith in
    rw (pow-succ' 256 p, ← div-div-eq-div-mul (x + 256 * number_of xs) 256 (256 ^ p), rest) (number_of-above xs p (λ i. h (suc i)))

-- a power of a power
power_of_power : (n k i : ℕ) → (n ^ k) ^ i ≡ n ^ (k * i)
power_of_power n k zero = rw (mul-zero k, pow-zero n, pow-zero (n ^ k)) refl
power_of_power n k (suc i) = rw (pow-succ' (n ^ k) i, power_of_power n k i, mul-suc k i, add_comm (k * i) k, pow-add n k (k * i)) refl

-- what lies above two bytes is in no digit that begins in the first of them
five_bits : (bits above s : ℕ) → s < 8 → (bits + 65536 * above) / 2 ^ s % 32 ≡ bits / 2 ^ s % 32
five_bits bits above s h =
    let part : ℕ = 2 ^ (11 - s) * above in
    let e : 11 ≡ s + (11 - s) = omega arith in
    let whole : 2 ^ 11 ≡ 2 ^ s * 2 ^ (11 - s) = ap (λ k. 2 ^ k) e ∙ pow-add 2 s (11 - s) in
    let moved : 65536 * above ≡ 2 ^ s * (32 * part) = grind (arith, whole) in
    rw (moved, add-mul-div_left bits (32 * part) (pow_pos s)) (add-mul-mod_self_left (bits / 2 ^ s) 32 part)

-- a digit to base 32, from the byte in which it begins and the next
pub digit_from_bytes : (xs : List ℕ) (i j s : ℕ) → AreBytes xs → 5 * i ≡ 8 * j + s → s < 8
    → (get_or xs j 0 + 256 * get_or xs (j + 1) 0) / 2 ^ s % 32 ≡ number_of xs / 32 ^ i % 32
digit_from_bytes xs i j s bytes e h =
    let low : ℕ = get_or xs j 0 in
    let high : ℕ = get_or xs (j + 1) 0 in
    let above : ℕ = number_of (drop (j + 1 + 1) xs) in
    let power : 32 ^ i ≡ 256 ^ j * 2 ^ s = power_of_power 2 5 i ∙ ap (λ k. 2 ^ k) e ∙ pow-add 2 (8 * j) s ∙ ap (λ n. n * 2 ^ s) (sym (power_of_power 2 8 j)) in
    let split : number_of (drop j xs) ≡ low + 256 * high + 65536 * above = omega (arith, number_of-drop xs j, number_of-drop xs (j + 1)) in
    rw (power, ← div-div-eq-div-mul (number_of xs) (256 ^ j) (2 ^ s), number_of-above xs j bytes, split) (sym (five_bits (low + 256 * high) above s h))

pub number_of-append : (xs ys : List ℕ) → number_of (xs ++ ys) ≡ number_of xs + 256 ^ length xs * number_of ys
unfolding number_of
number_of-append [] ys = omega arith
number_of-append (x ∷ xs) ys = rw (number_of-append xs ys, pow-suc 256 (length xs)) (omega arith)

pub number_of-take : (xs : List ℕ) (p : ℕ) → p < length xs → number_of (take (p + 1) xs) ≡ number_of (take p xs) + 256 ^ p * get_or xs p 0
unfolding number_of
number_of-take xs p h =
    rw (take_more xs p 0 h, number_of-append (take p xs) (get_or xs p 0 ∷ []), length-take-le p xs (omega arith)) (omega arith)

pub number_of-take-set : (xs : List ℕ) (p v : ℕ) → p < length xs → number_of (take (p + 1) (set xs p v)) ≡ number_of (take p xs) + 256 ^ p * v
unfolding number_of
number_of-take-set xs p v h =
    rw (take_more_set xs p v h, number_of-append (take p xs) (v ∷ []), length-take-le p xs (omega arith)) (omega arith)

-- one step of a multiplication by 32, from the lowest byte up
pub append_step : (old now : List ℕ) (p carry digit byte : ℕ) → p < length old → p < length now → byte ≡ get_or now p 0 → byte ≡ get_or old p 0
    → number_of (take p now) + 256 ^ p * carry ≡ 32 * number_of (take p old) + digit
    → number_of (take (p + 1) (set now p ((byte * 32 + carry) % 256))) + 256 ^ (p + 1) * ((byte * 32 + carry) / 256) ≡ 32 * number_of (take (p + 1) old) + digit
append_step old now p carry digit byte h k is same e =
    let high : ℕ = (byte * 32 + carry) / 256 in
    let low : ℕ = (byte * 32 + carry) % 256 in
    let whole : 256 ^ p * (256 * high + low) ≡ 256 ^ p * (byte * 32 + carry) = ap (λ n. 256 ^ p * n) (omega arith) in
    rw (number_of-take-set now p low k, number_of-take old p h, ← same, add-one p, pow-suc 256 p) (omega (arith, e, whole))

-- the last carry is 0
pub append_end : (old now : List ℕ) (p carry digit : ℕ) → p ≡ 20 → length old ≡ 20 → length now ≡ 20 → digit < 32 → number_of old < 32 ^ 31
    → number_of (take p now) + 256 ^ p * carry ≡ 32 * number_of (take p old) + digit → number_of now ≡ 32 * number_of old + digit
append_end old now p carry digit end long now_long small fits e =
    let f : number_of now + 256 ^ 20 * carry ≡ 32 * number_of old + digit =
    subst (λ xs. number_of xs + 256 ^ 20 * carry ≡ 32 * number_of old + digit) (take_all 20 now (omega arith)) (
    subst (λ xs. number_of (take 20 now) + 256 ^ 20 * carry ≡ 32 * number_of xs + digit) (take_all 20 old (omega arith)) (
    subst (λ n. number_of (take n now) + 256 ^ n * carry ≡ 32 * number_of (take n old) + digit) end e)) in
    omega (arith, f)

inside_or_past : (p n : ℕ) → (p < n) ⊎ (n ≤ p)
inside_or_past p n = grind arith

place_cases : (i j : ℕ) → (i ≡ j) ⊎ (i ≢ j)
place_cases i j = grind arith

-- 20 bytes, with another byte at a place
pub IsFolded-set : (xs : List ℕ) (p v : ℕ) → IsFolded xs → v < 256 → IsFolded (set xs p v)
IsFolded-set xs p v folded small = record {
  bytes = λ i. elim (inside_or_past p (length xs)) [
    | inl inside ↦ elim (place_cases i p) [
      | inl e ↦ rw (e, get_or-set_same xs p v 0 inside) small
      | inr other ↦ rw (get_or-set_other xs p i v 0 other) (folded.bytes i)
    ]
    | inr past ↦ rw (set_past xs p v past) (folded.bytes i)
  ];
  length = length-set xs p v ∙ folded.length;
}

byte_by_test : (xs : List ℕ) → list_all (λ b. nat_lt b 256) xs ≡ true → AreBytes xs
byte_by_test [] h i = lit< tt
byte_by_test (b ∷ bs) h zero = (Decides-ltb b 256).0 (and_parts (nat_lt b 256) (list_all (λ c. nat_lt c 256) bs) h).0
byte_by_test (b ∷ bs) h (suc i) = byte_by_test bs (and_parts (nat_lt b 256) (list_all (λ c. nat_lt c 256) bs) h).1 i

-- 20 zeros
pub IsFolded-zeros : IsFolded (replicate 20 0)
IsFolded-zeros = record { bytes = byte_by_test (replicate 20 0) refl; length = refl }
