-- What is of ASCII is text.
use Rattle.std.proofs.Common.{◌≡◌, ℕ, zero, suc, ◌<◌, Bool, true, ◌&&◌, ◌||◌, ◌==◌, inl, inr, refl, List, [], ◌∷◌, arith, sym, subst, take, drop, take-append-drop, drop-drop, codes}
use Rattle.std.specs.Prelude.{nat_le, nat_lt, not, bytes_eq, length}
use Rattle.std.specs.List.{list_all, list_any}
use Rattle.std.specs.Str.{IsUtf8, IsAscii}
use Rattle.std.proofs.lemmas.Str.{IsUtf8-from_ascii, IsAscii-append}
use Rattle.std.proofs.lemmas.Bool.Decides.{nat_tests}
use Rattle.model.specs.Derivations.{is_character, is_text}
use Rattle.model.specs.Characters.{is_lower_case, is_digit}
use Rattle.model.specs.Paths.{is_path, is_hash_part_and_name, is_name, is_name_byte, is_digit_32, digits_32, begins_with_dot}
use Rattle.model.specs.Worlds.{is_user_name, begins_with_letter}
use Rattle.model.proofs.BoolLemmas.{both_parts, or_cases, same_bytes}

-- bytes that pass a test which only ASCII passes
ascii_by : (test : ℕ → Bool) → ((b : ℕ) → test b ≡ true → b < 128) → (bytes : List ℕ) → list_all test bytes ≡ true → IsAscii bytes
ascii_by test small [] h i = omega arith
ascii_by test small (b ∷ bytes) h zero = small b (both_parts (test b) (list_all test bytes) h).0
ascii_by test small (b ∷ bytes) h (suc i) = ascii_by test small bytes (both_parts (test b) (list_all test bytes) h).1 i

-- one of bytes that are small is small
one_of : (bytes : List ℕ) (b : ℕ) → list_all (λ c. nat_lt c 128) bytes ≡ true → list_any (λ c. c == b) bytes ≡ true → b < 128
one_of [] b h k = cc
one_of (c ∷ bytes) b h k =
    let parts = both_parts (nat_lt c 128) (list_all (λ d. nat_lt d 128) bytes) h in
    elim (or_cases (c == b) (list_any (λ d. d == b) bytes) k) [ inl same ↦ grind (arith, nat_tests, same, parts.0) | inr later ↦ one_of bytes b parts.1 later ]

character_is_small : (b : ℕ) → is_character b ≡ true → b < 128
character_is_small b h = grind (arith, nat_tests, h)

pub string_is_text : (bytes : List ℕ) → is_text bytes ≡ true → IsUtf8 bytes
string_is_text bytes h = IsUtf8-from_ascii bytes (ascii_by is_character character_is_small bytes h)

letter_is_small : (b : ℕ) → (is_lower_case b || is_digit b) ≡ true → b < 128
letter_is_small b h = grind (arith, nat_tests, h)

pub user_is_text : (bytes : List ℕ) → is_user_name bytes ≡ true → IsUtf8 bytes
unfolding is_user_name
user_is_text bytes h =
    let letters = list_all (λ b. is_lower_case b || is_digit b) bytes in
    let behind = (both_parts (begins_with_letter bytes) (nat_le (length bytes) 32 && letters) h).1 in
    IsUtf8-from_ascii bytes (ascii_by (λ b. is_lower_case b || is_digit b) letter_is_small bytes (both_parts (nat_le (length bytes) 32) letters behind).1)

name_byte_is_small : (b : ℕ) → is_name_byte b ≡ true → b < 128
name_byte_is_small b h =
    let signs = codes "+-._?=" in
    elim (or_cases (nat_le 48 b && nat_le b 57) _ h) [
      | inl digit ↦ grind (arith, nat_tests, digit)
      | inr others ↦
          elim (or_cases (nat_le 65 b && nat_le b 90) _ others) [
            | inl upper ↦ grind (arith, nat_tests, upper)
            | inr more ↦
                elim (or_cases (nat_le 97 b && nat_le b 122) _ more) [ inl lower ↦ grind (arith, nat_tests, lower) | inr sign ↦ one_of signs b refl sign ]
          ]
    ]

name_is_ascii : (name : List ℕ) → is_name name ≡ true → IsAscii name
unfolding is_name
name_is_ascii name h =
    let all = list_all is_name_byte name in
    let behind = (both_parts (nat_lt 0 (length name)) (nat_le (length name) 211 && (not (begins_with_dot name) && all)) h).1 in
    let last = (both_parts (nat_le (length name) 211) (not (begins_with_dot name) && all) behind).1 in
    ascii_by is_name_byte name_byte_is_small name (both_parts (not (begins_with_dot name)) all last).1

-- bytes that are a text of ASCII
same_ascii : (bytes text : List ℕ) → bytes_eq bytes text ≡ true → IsAscii text → IsAscii bytes
same_ascii bytes text h k = subst IsAscii (sym (same_bytes bytes text h)) k

-- a front and the rest
ascii_parts : (n : ℕ) (bytes : List ℕ) → IsAscii (take n bytes) → IsAscii (drop n bytes) → IsAscii bytes
ascii_parts n bytes front rest = subst IsAscii (take-append-drop n bytes) (IsAscii-append (take n bytes) (drop n bytes) front rest)

digit_is_small : (b : ℕ) → is_digit_32 b ≡ true → b < 128
digit_is_small b h = one_of digits_32 b refl h

behind_is_ascii : (text : List ℕ) → is_hash_part_and_name text ≡ true → IsAscii text
unfolding is_hash_part_and_name
behind_is_ascii text h =
    let dash = bytes_eq (take 1 (drop 32 text)) (codes "-") in
    let digits = list_all is_digit_32 (take 32 text) in
    let one = both_parts dash (digits && is_name (drop 33 text)) h in
    let two = both_parts digits (is_name (drop 33 text)) one.1 in
    let dash_ascii = same_ascii (take 1 (drop 32 text)) (codes "-") one.0 (ascii_by (λ b. nat_lt b 128) (λ b h. grind (arith, nat_tests, h)) (codes "-") refl) in
    let name_ascii : IsAscii (drop 1 (drop 32 text)) = subst IsAscii (sym (drop-drop 1 32 text)) (name_is_ascii (drop 33 text) two.1) in
    ascii_parts 32 text (ascii_by is_digit_32 digit_is_small (take 32 text) two.0) (ascii_parts 1 (drop 32 text) dash_ascii name_ascii)

pub path_is_text : (bytes : List ℕ) → is_path bytes ≡ true → IsUtf8 bytes
unfolding is_path
path_is_text bytes h =
    let front = bytes_eq (take 11 bytes) (codes "/nix/store/") in
    let parts = both_parts front (is_hash_part_and_name (drop 11 bytes)) h in
    let store = ascii_by (λ b. nat_lt b 128) (λ b h. grind (arith, nat_tests, h)) (codes "/nix/store/") refl in
    IsUtf8-from_ascii bytes (ascii_parts 11 bytes (same_ascii (take 11 bytes) (codes "/nix/store/") parts.0 store) (behind_is_ascii (drop 11 bytes) parts.1))
