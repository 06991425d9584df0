-- What a store path tells of what it is made of.
use Rattle.std.proofs.Common.{◌≡◌, ℕ, zero, suc, ◌*◌, ◌/◌, ◌%◌, ◌^◌, ◌<◌, Bool, true, List, [], ◌∷◌, ◌++◌, length, refl, sym, ◌∙◌, ap, arith, append_assoc, length-append, Ok, lit<, inl, inr}
use Rattle.std.specs.Prelude.{codes, slice_index, ◌&&◌, ◌==◌}
use Rattle.std.specs.List.{position_or_len}
use Rattle.std.proofs.Math.Nat.{pow-suc}
use Rattle.std.proofs.lemmas.Bool.{and_parts}
use Rattle.std.proofs.lemmas.Bool.Decides.{Decides-eqb}
use Rattle.std.proofs.lemmas.List.{append_cancel_left, append_cancel_right, same_from_push}
use Rattle.hex.specs.Hex.{encode_lower, lower_digits, decode_of}
use Rattle.hex.proofs.HexLemmas.{length-encode_with, decode_of-encode_lower}
use Rattle.sha2.specs.Sha256.{sha256}
use Rattle.sha2.proofs.Facts256.{length-sha256}
use Rattle.model.specs.Archives.{AreBytes}
use Rattle.model.specs.Paths.{Kind, kind_text, fingerprint, path_text, short_digest, folded, base32, digits_32, digits_of, number_of, IsFolded}
use Rattle.hashmod.proofs.FoldLemmas.{AreBytes-sha256, IsFolded-short_digest, last_or_before}
use Rattle.storepath.proofs.PathLemmas.{length-base32, parts_of-path_text}
use Rattle.storepath.specs.Laws.{PathsDiffer}

-- two joined texts whose first parts have one length have the same parts
pub same_parts : (xs ys us vs : List ℕ) → length xs ≡ length us → xs ++ ys ≡ us ++ vs → (xs ≡ us) × (ys ≡ vs)
same_parts [] ys [] vs l e = (refl, e)
same_parts [] ys (u ∷ us) vs l e = cc
same_parts (x ∷ xs) ys [] vs l e = cc
same_parts (x ∷ xs) ys (u ∷ us) vs l e =
    let tails : xs ++ ys ≡ us ++ vs = cc in
    let heads : x ≡ u = cc in
    let lengths : length xs ≡ length us = cc in
    let rest = same_parts xs ys us vs lengths tails in
    (cc (heads, rest.0), rest.1)

-- ---- numbers

number_bound : (xs : List ℕ) → AreBytes xs → number_of xs < 256 ^ length xs
unfolding number_of
number_bound [] h = lit< tt
number_bound (x ∷ xs) h =
    let rest = number_bound xs (λ i. h (suc i)) in
    let first : x < 256 = h 0 in
    rw (pow-suc 256 (length xs)) (omega (arith, rest, first))

same_bytes : (xs ys : List ℕ) → AreBytes xs → AreBytes ys → length xs ≡ length ys → number_of xs ≡ number_of ys → xs ≡ ys
unfolding number_of
same_bytes [] [] h k l e = refl
same_bytes [] (y ∷ ys) h k l e = cc
same_bytes (x ∷ xs) [] h k l e = cc
same_bytes (x ∷ xs) (y ∷ ys) h k l e =
    let first : x < 256 = h 0 in
    let second : y < 256 = k 0 in
    let heads : x ≡ y = omega (arith, e, first, second) in
    let numbers : number_of xs ≡ number_of ys = omega (arith, e, first, second) in
    let lengths : length xs ≡ length ys = cc in
    cc (heads, same_bytes xs ys (λ i. h (suc i)) (λ i. k (suc i)) lengths numbers)

-- ---- digits

abbrev all_below : (ℕ → Bool) → ℕ → Bool
all_below test zero = true
all_below test (suc n) = all_below test n && test n

holds_below : (test : ℕ → Bool) (n : ℕ) → all_below test n ≡ true → (i : ℕ) → i < n → test i ≡ true
holds_below test zero h i l = absurd (omega arith)
holds_below test (suc n) h i l =
    let parts = and_parts (all_below test n) (test n) h in
    elim (last_or_before i n l) [ inl e ↦ rw e parts.1 | inr less ↦ holds_below test n parts.0 i less ]

-- where a digit stands among the digits
place_of : ℕ → ℕ
place_of digit = position_or_len (λ d. d == digit) digits_32

each_at_its_place : all_below (λ i. place_of (slice_index digits_32 i) == i) 32 ≡ true
unfolding place_of
each_at_its_place = refl

same_digit : (i j : ℕ) → i < 32 → j < 32 → slice_index digits_32 i ≡ slice_index digits_32 j → i ≡ j
same_digit i j h k e =
    let test : ℕ → Bool = λ n. place_of (slice_index digits_32 n) == n in
    sym ((Decides-eqb (place_of (slice_index digits_32 i)) i).0 (holds_below test 32 each_at_its_place i h)) ∙ ap place_of e
    ∙ (Decides-eqb (place_of (slice_index digits_32 j)) j).0 (holds_below test 32 each_at_its_place j k)

same_number : (k m n : ℕ) → m < 32 ^ k → n < 32 ^ k → digits_of k m ≡ digits_of k n → m ≡ n
unfolding digits_of
same_number zero m n h l e = omega (arith, h, l)
same_number (suc k) m n h l e =
    let last = same_from_push (digits_of k (m / 32)) (digits_of k (n / 32)) (slice_index digits_32 (m % 32)) (slice_index digits_32 (n % 32)) e in
    let first : m < 32 ^ k * 32 = rw pow-suc at h in
    let second : n < 32 ^ k * 32 = rw pow-suc at l in
    let high : m / 32 ≡ n / 32 = same_number k (m / 32) (n / 32) (omega (arith, first)) (omega (arith, second)) last.0 in
    let low : m % 32 ≡ n % 32 = same_digit (m % 32) (n % 32) (omega arith) (omega arith) last.1 in
    omega (arith, high, low)

-- 20 bytes have a text of their own
pub same_from_base32 : (a b : List ℕ) → IsFolded a → IsFolded b → base32 a ≡ base32 b → a ≡ b
same_from_base32 a b first second e =
    let small : number_of a < 256 ^ 20 = rw first.length at (number_bound a first.bytes) in
    let below : number_of b < 256 ^ 20 = rw second.length at (number_bound b second.bytes) in
    same_bytes a b first.bytes second.bytes (first.length ∙ sym second.length) (same_number 32 (number_of a) (number_of b) small below e)

-- ---- paths

-- paths are the same only where hash part and name are
pub same_from_path_text : (a b m n : List ℕ) → IsFolded a → IsFolded b → path_text a m ≡ path_text b n → (a ≡ b) × (m ≡ n)
same_from_path_text a b m n first second e =
    let texts : codes "/nix/store/" ++ (base32 a ++ (codes "-" ++ m)) ≡ codes "/nix/store/" ++ (base32 b ++ (codes "-" ++ n)) =
    sym (parts_of-path_text a m) ∙ e ∙ parts_of-path_text b n in
    let rest = append_cancel_left (codes "/nix/store/") (base32 a ++ (codes "-" ++ m)) (base32 b ++ (codes "-" ++ n)) texts in
    let parts = same_parts (base32 a) (codes "-" ++ m) (base32 b) (codes "-" ++ n) (length-base32 a ∙ sym (length-base32 b)) rest in
    (same_from_base32 a b first second parts.0, append_cancel_left (codes "-") m n parts.1)

same_from_hex : (a b : List ℕ) → AreBytes a → AreBytes b → encode_lower a ≡ encode_lower b → a ≡ b
same_from_hex a b h k e =
    let both : Ok a ≡ Ok b = sym (decode_of-encode_lower a h) ∙ ap decode_of e ∙ decode_of-encode_lower b k in cc

regroup : (kind one digits two name : List ℕ) → kind ++ one ++ digits ++ two ++ name ≡ ((kind ++ one) ++ digits) ++ (two ++ name)
regroup kind one digits two name = simp append_assoc

-- fingerprints with one name are the same only where the digests are
pub same_from_fingerprint : (k l : Kind) (s t m : List ℕ) → fingerprint k (sha256 s) m ≡ fingerprint l (sha256 t) m → sha256 s ≡ sha256 t
unfolding fingerprint
same_from_fingerprint k l s t m e =
    let a : List ℕ = encode_lower (sha256 s) in
    let b : List ℕ = encode_lower (sha256 t) in
    let one : List ℕ = codes ":sha256:" in
    let two : List ℕ = codes ":/nix/store:" in
    let first : List ℕ = kind_text k ++ one in
    let second : List ℕ = kind_text l ++ one in
    let texts : (first ++ a) ++ (two ++ m) ≡ (second ++ b) ++ (two ++ m) = sym (regroup (kind_text k) one a two m) ∙ e ∙ regroup (kind_text l) one b two m in
    let fronts : first ++ a ≡ second ++ b = append_cancel_right (first ++ a) (second ++ b) (two ++ m) texts in
    let digits : length a ≡ length b =
    omega (arith, length-encode_with lower_digits (sha256 s), length-encode_with lower_digits (sha256 t), length-sha256 s, length-sha256 t) in
    let lengths : length first ≡ length second = omega (arith, ap length fronts, length-append first a, length-append second b, digits) in
    same_from_hex (sha256 s) (sha256 t) (AreBytes-sha256 s) (AreBytes-sha256 t) (same_parts first a second b lengths fronts).1

pub one_text_at_a_path : PathsDiffer
one_text_at_a_path texts apart k l s t m n in_s in_t in_first in_second e =
    let first : List ℕ = fingerprint k (sha256 s) m in
    let second : List ℕ = fingerprint l (sha256 t) n in
    let parts = same_from_path_text (short_digest first) (short_digest second) m n (IsFolded-short_digest first) (IsFolded-short_digest second) e in
    let same : first ≡ second = apart first second in_first in_second parts.0 in
    let digests = same_from_fingerprint k l s t m (same ∙ ap (fingerprint l (sha256 t)) (sym parts.1)) in
    (apart s t in_s in_t (ap folded digests), parts.1)
