-- A text passes the test of a path exactly where it is a path's.
use Rattle.std.proofs.Common.{◌≡◌, ℕ, zero, suc, ◌+◌, ◌*◌, ◌/◌, ◌%◌, ◌^◌, ◌<◌, ◌≤◌, Bool, true, List, [], ◌∷◌, ◌++◌, length, get_or, take, drop, refl, sym, subst, ◌∙◌, ap, inl, inr, arith, add-one, lit<}
use Rattle.std.specs.Prelude.{codes, slice_index, bytes_eq, ◌==◌, ◌&&◌, IsTrue, ◌↔◌}
use Rattle.std.specs.List.{list_any, list_all}
use Rattle.std.specs.Str.{IsAscii}
use Rattle.std.proofs.lemmas.Slice.Eq.{bytes_eq-Decides}
use Rattle.std.proofs.Math.Nat.{pow-suc}
use Rattle.std.proofs.lemmas.Bool.{and_parts, false≢true}
use Rattle.std.proofs.lemmas.Bool.Decides.{Decides-eqb, eqb_tells, same_from_decides}
use Rattle.std.proofs.lemmas.List.{drop-drop, length-take-le, take-append-drop, take_at, drop_at, take_all, length-drop}
use Rattle.std.proofs.lemmas.List.Folds.{list_all-append}
use Rattle.std.proofs.lemmas.List.Sums.{AllPass-from_list_all}
use Rattle.model.specs.Archives.{AreBytes}
use Rattle.model.specs.Paths.{base32, digits_32, digits_of, number_of, is_name, is_digit_32, is_hash_part_and_name, is_path, IsFolded, IsPath}
use Rattle.hashmod.proofs.FoldLemmas.{one_more_byte}
use Rattle.storepath.proofs.DigitLemmas.{read_digit, small_number}
use Rattle.storepath.proofs.PathLemmas.{base32_is_ascii, length-base32, parts_of-path_text, joined_path}
use Rattle.storepath.specs.Parts.{is_hash_part}

-- ---- digits

-- each digit passes
digit_passes : (n : ℕ) → is_digit_32 (slice_index digits_32 (n % 32)) ≡ true
digit_passes n =
    let within : n % 32 < 32 = omega arith in
    AllPass-from_list_all is_digit_32 digits_32 refl (n % 32) 0 within

digits_pass : (k n : ℕ) → list_all is_digit_32 (digits_of k n) ≡ true
unfolding digits_of
digits_pass zero n = refl
digits_pass (suc k) n =
    rw (list_all-append is_digit_32 (digits_of k (n / 32)) (slice_index digits_32 (n % 32) ∷ []), digits_pass k (n / 32), digit_passes n) refl

-- what passes is a digit
digit_among : (digits : List ℕ) (c : ℕ) → list_any (λ digit. digit == c) digits ≡ true → (j : ℕ) × (j < length digits) × (get_or digits j 0 ≡ c)
digit_among [] c h = absurd (false≢true h)
digit_among (d ∷ ds) c h =
    elim (eqb_tells d c) [
      | inl e ↦ (0, omega arith, e.1)
      | inr e ↦
          let passes : list_any (λ digit. digit == c) ds ≡ true = rw e.0 at h in
          let found = digit_among ds c passes in
          (suc found.0, omega (arith, found.1), found.2)
    ]

-- digits are those of a number
number_with : (text : List ℕ) → list_all is_digit_32 text ≡ true → (i : ℕ) → i ≤ length text → (n : ℕ) × (n < 32 ^ i) × (digits_of i n ≡ take i text)
unfolding digits_of
number_with text h zero le = (0, lit< tt, refl)
number_with text h (suc i) le =
    let character : ℕ = get_or text i 0 in
    let digit = digit_among digits_32 character (AllPass-from_list_all is_digit_32 text h i 0 (omega arith)) in
    let high = number_with text h i (omega arith) in
    let n : ℕ = 32 * high.0 + digit.0 in
    let small : n < 32 ^ (i + 1) = small_number i high.0 digit.0 n high.1 digit.1 refl in
    let read : digits_of (i + 1) n ≡ take (i + 1) text = read_digit text i high.0 n digit.0 (omega arith) digit.1 digit.2 refl high.2 in
    subst (λ k. (n : ℕ) × (n < 32 ^ k) × (digits_of k n ≡ take k text)) (add-one i) (n, small, read)

-- a number is that of its bytes
bytes_with : (k n : ℕ) → n < 256 ^ k → (bytes : List ℕ) × AreBytes bytes × (length bytes ≡ k) × (number_of bytes ≡ n)
unfolding number_of
bytes_with zero n h = ([], λ i. lit< tt, refl, omega (arith, h))
bytes_with (suc k) n h =
    let bound : n < 256 ^ k * 256 = rw pow-suc at h in
    let rest = bytes_with k (n / 256) (omega (arith, bound)) in
    (n % 256 ∷ rest.0, one_more_byte (n % 256) rest.0 (omega arith) rest.1, ap suc rest.2, rw rest.3 (omega arith))

-- 32 digits are those of 20 bytes
pub folded_with : (text : List ℕ) → length text ≡ 32 → list_all is_digit_32 text ≡ true → (bytes : List ℕ) × IsFolded bytes × (base32 bytes ≡ text)
folded_with text long h =
    let number = number_with text h 32 (omega (arith, long)) in
    let bytes = bytes_with 20 number.0 number.1 in
    (bytes.0, record { bytes = bytes.1; length = bytes.2 }, ap (digits_of 32) bytes.3 ∙ number.2 ∙ take_all 32 text (omega (arith, long)))

-- a hash part is the digits of 20 bytes
pub hash_part_with : (text : List ℕ) → is_hash_part text ≡ true → (bytes : List ℕ) × IsFolded bytes × (base32 bytes ≡ text)
hash_part_with text h =
    let parts = and_parts (length text == 32) (list_all is_digit_32 text) h in
    folded_with text ((Decides-eqb (length text) 32).0 parts.0) parts.1

-- 20 bytes have 32 digits
pub base32_passes : (bytes : List ℕ) → list_all is_digit_32 (base32 bytes) ≡ true
base32_passes bytes = digits_pass 32 (number_of bytes)

-- the digits of 20 bytes are a hash part
pub base32_is_hash_part : (bytes text : List ℕ) → base32 bytes ≡ text → is_hash_part text ≡ true
base32_is_hash_part bytes text e = rw (← e, length-base32 bytes, base32_passes bytes) refl

-- 32 digits are ASCII
pub digits_are_ascii : (text : List ℕ) → length text ≡ 32 → list_all is_digit_32 text ≡ true → IsAscii text
digits_are_ascii text long h =
    let bytes = folded_with text long h in
    subst IsAscii bytes.2 (base32_is_ascii bytes.0)

-- ---- paths

pub path_passes : (text : List ℕ) → IsPath text → is_path text ≡ true
unfolding is_path is_hash_part_and_name
path_passes text path =
    let digits = base32 path.hash_part in
    let is : text ≡ codes "/nix/store/" ++ (digits ++ (codes "-" ++ path.name)) = path.is ∙ parts_of-path_text path.hash_part path.name in
    let front : take 32 (digits ++ (codes "-" ++ path.name)) ≡ digits = take_at digits (codes "-" ++ path.name) 32 (length-base32 path.hash_part) in
    let behind : drop 32 (digits ++ (codes "-" ++ path.name)) ≡ codes "-" ++ path.name = drop_at digits (codes "-" ++ path.name) 32 (length-base32 path.hash_part) in
    let name : drop 33 (digits ++ (codes "-" ++ path.name)) ≡ path.name = sym (drop-drop 1 32 (digits ++ (codes "-" ++ path.name))) ∙ ap (drop 1) behind in
    rw (is, front, behind, name, base32_passes path.hash_part, path.named) refl

long_from_dash : (rest : List ℕ) → drop 32 rest ≡ codes "-" ++ drop 33 rest → 32 ≤ length rest
long_from_dash rest dash = omega (arith, ap length dash, length-drop 32 rest)

pub path_from_test : (text : List ℕ) → is_path text ≡ true → IsPath text
unfolding is_path is_hash_part_and_name
path_from_test text h =
    let rest : List ℕ = drop 11 text in
    let one = and_parts (bytes_eq (take 11 text) (codes "/nix/store/")) (is_hash_part_and_name rest) h in
    let two = and_parts (bytes_eq (take 1 (drop 32 rest)) (codes "-")) (list_all is_digit_32 (take 32 rest) && is_name (drop 33 rest)) one.1 in
    let three = and_parts (list_all is_digit_32 (take 32 rest)) (is_name (drop 33 rest)) two.1 in
    let store : text ≡ codes "/nix/store/" ++ rest = sym (take-append-drop 11 text) ∙ ap (λ front. front ++ rest) ((bytes_eq-Decides (take 11 text) (codes "/nix/store/")).0 one.0) in
    let tag : take 1 (drop 32 rest) ≡ codes "-" = (bytes_eq-Decides (take 1 (drop 32 rest)) (codes "-")).0 two.0 in
    let dash : drop 32 rest ≡ codes "-" ++ drop 33 rest = sym (take-append-drop 1 (drop 32 rest)) ∙ ap (λ front. front ++ drop 1 (drop 32 rest)) tag ∙ ap (λ behind. codes "-" ++ behind) (drop-drop 1 32 rest) in
    let long : length (take 32 rest) ≡ 32 = length-take-le 32 rest (long_from_dash rest dash) in
    let bytes = folded_with (take 32 rest) long three.0 in
    joined_path text rest (drop 33 rest) bytes.0 store dash bytes.1 bytes.2 three.1

-- what says whether a text is a path's says what the test says
pub same_as_test : (says : Bool) (text : List ℕ) → IsTrue says ↔ IsPath text → says ≡ is_path text
same_as_test says text h =
    same_from_decides says (is_path text) h (path_from_test text, path_passes text)
