-- Words that may stand in a line: of printable bytes, without blanks and braces.
use Rattle.std.proofs.Common.{◌≡◌, ℕ, suc, ◌+◌, ◌*◌, ◌-◌, ◌/◌, ◌%◌, ◌^◌, ◌<◌, Bool, true, false, not, ◌&&◌, ◌||◌, List, [], ◌∷◌, ◌++◌, length, get_or, codes, slice_index, refl, sym, subst, ◌∙◌, arith}
use Rattle.std.specs.Prelude.{◌==◌, nat_le, nat_lt, decimal}
use Rattle.std.specs.List.{list_all, list_any}
use Rattle.std.proofs.lemmas.Bool.{and_parts, and_from, eqb-true}
use Rattle.std.proofs.lemmas.Bool.Decides.{nat_tests, Decides-ltb}
use Rattle.std.proofs.lemmas.List.Folds.{list_all-append}
use Rattle.std.proofs.lemmas.Fmt.{decimal_by_steps, decimal_nonempty, first_decimal}
use Rattle.hex.specs.Hex.{encode_lower, encode_with, lower_digits}
use Rattle.model.specs.Archives.{Tree, File, Link, Directory, Entries, NoEntries, Entry, AreBytes, HasBytes, HaveBytes}
use Rattle.model.specs.Characters.{is_digit, is_lower_case}
use Rattle.model.specs.Lines.{is_numeral, number_behind}
use Rattle.model.specs.Limits.{longest_user_name, longest_name}
use Rattle.model.specs.Paths.{base32, digits_32, is_name, is_name_byte, is_digit_32, begins_with_dot, IsPath}
use Rattle.model.specs.TreeTexts.{tree_text_of, entries_text_of, file_mark, separator}
use Rattle.model.specs.Worlds.{is_user_name, begins_with_letter}
use Rattle.storepath.proofs.PathLemmas.{parts_of-path_text}
use Rattle.storepath.proofs.PathTests.{base32_passes}
use Rattle.tree_text.specs.TextReading.{is_lower_digit}
use Rattle.tree_text.proofs.LowerDigits.{digit_is_lower}

-- a printable byte that is neither a blank nor an opening brace
abbrev pub is_word_byte : ℕ → Bool
is_word_byte b = (nat_le 33 b && nat_le b 126) && not (b == 123)

abbrev pub are_word_bytes : List ℕ → Bool
are_word_bytes = list_all is_word_byte

-- one or more of them
abbrev pub is_word : List ℕ → Bool
is_word [] = false
is_word (b ∷ word) = is_word_byte b && are_word_bytes word

abbrev pub are_words : List (List ℕ) → Bool
are_words [] = true
are_words (word ∷ words) = is_word word && are_words words

pub word_bytes : (word : List ℕ) → is_word word ≡ true → are_word_bytes word ≡ true
word_bytes [] is = absurd (cc is)
word_bytes (b ∷ word) is = is

pub word_from : (word : List ℕ) → 0 < length word → are_word_bytes word ≡ true → is_word word ≡ true
word_from [] some are = absurd (omega (arith, some))
word_from (b ∷ word) some are = are

pub one_word : (word : List ℕ) → is_word word ≡ true → are_words (word ∷ []) ≡ true
one_word word is = rw is refl

pub two_words : (first second : List ℕ) → is_word first ≡ true → is_word second ≡ true → are_words (first ∷ second ∷ []) ≡ true
two_words first second is also = rw (is, also) refl

-- bytes that pass a test pass a weaker one
pub weaker : (p q : ℕ → Bool) → ((b : ℕ) → p b ≡ true → q b ≡ true) → (bytes : List ℕ) → list_all p bytes ≡ true → list_all q bytes ≡ true
weaker p q passes [] are = refl
weaker p q passes (b ∷ bytes) are =
    let parts = and_parts (p b) (list_all p bytes) are in
    and_from (q b) (list_all q bytes) (passes b parts.0) (weaker p q passes bytes parts.1)

both_words : (a b : List ℕ) → are_word_bytes a ≡ true → are_word_bytes b ≡ true → are_word_bytes (a ++ b) ≡ true
both_words a b first second = list_all-append is_word_byte a b ∙ and_from (are_word_bytes a) (are_word_bytes b) first second

-- ---- names and paths

name_byte : (b : ℕ) → is_name_byte b ≡ true → is_word_byte b ≡ true
name_byte b is = grind (arith, nat_tests)

pub name_word : (name : List ℕ) → is_name name ≡ true → is_word name ≡ true
unfolding is_name
name_word name is =
    let first = and_parts (nat_lt 0 (length name)) (nat_le (length name) longest_name && (not (begins_with_dot name) && list_all is_name_byte name)) is in
    let second = and_parts (nat_le (length name) longest_name) (not (begins_with_dot name) && list_all is_name_byte name) first.1 in
    let third = and_parts (not (begins_with_dot name)) (list_all is_name_byte name) second.1 in
    word_from name ((Decides-ltb 0 (length name)).0 first.0) (weaker is_name_byte is_word_byte name_byte name third.1)

user_byte : (b : ℕ) → (is_lower_case b || is_digit b) ≡ true → is_word_byte b ≡ true
user_byte b is = grind (arith, nat_tests)

letter_first : (name : List ℕ) → begins_with_letter name ≡ true → 0 < length name
letter_first [] is = absurd (cc is)
letter_first (b ∷ name) is = omega arith

pub user_word : (name : List ℕ) → is_user_name name ≡ true → is_word name ≡ true
unfolding is_user_name
user_word name is =
    let bytes = list_all (λ b. is_lower_case b || is_digit b) name in
    let first = and_parts (begins_with_letter name) (nat_le (length name) longest_user_name && bytes) is in
    let second = and_parts (nat_le (length name) longest_user_name) bytes first.1 in
    word_from name (letter_first name first.0) (weaker (λ b. is_lower_case b || is_digit b) is_word_byte user_byte name second.1)

among_words : (digits : List ℕ) (c : ℕ) → are_word_bytes digits ≡ true → list_any (λ digit. digit == c) digits ≡ true → is_word_byte c ≡ true
among_words [] c are is = absurd (cc is)
among_words (d ∷ digits) c are is = by (d == c) refl (λ others. among_words digits c parts.1 others)
  where
    parts : (is_word_byte d ≡ true) × (are_word_bytes digits ≡ true)
    parts = and_parts (is_word_byte d) (are_word_bytes digits) are

    by : (t : Bool) → (d == c) ≡ t → (list_any (λ digit. digit == c) digits ≡ true → is_word_byte c ≡ true) → is_word_byte c ≡ true
    by true e among = subst (λ (b : ℕ). is_word_byte b ≡ true) (eqb-true d c e) parts.0
    by false e among = among (rw e at is)

digit_byte : (c : ℕ) → is_digit_32 c ≡ true → is_word_byte c ≡ true
digit_byte c is = among_words digits_32 c refl is

pub path_word : (path : List ℕ) → IsPath path → is_word path ≡ true
path_word path is =
    let name = word_bytes is.name (name_word is.name is.named) in
    let digits = weaker is_digit_32 is_word_byte digit_byte (base32 is.hash_part) (base32_passes is.hash_part) in
    let rest = both_words (base32 is.hash_part) (codes "-" ++ is.name) digits (both_words (codes "-") is.name refl name) in
    let whole = both_words (codes "/nix/store/") (base32 is.hash_part ++ (codes "-" ++ is.name)) refl rest in
    subst (λ (text : List ℕ). is_word text ≡ true) (sym (is.is ∙ parts_of-path_text is.hash_part is.name)) whole

-- ---- digits of base 16

lower_byte : (b : ℕ) → is_lower_digit b ≡ true → is_word_byte b ≡ true
lower_byte b is = grind (arith, nat_tests)

pub digits_bytes : (bytes : List ℕ) → AreBytes bytes → are_word_bytes (encode_lower bytes) ≡ true
unfolding encode_with
digits_bytes [] are = refl
digits_bytes (b ∷ bytes) are =
    let small : b < 256 = are 0 in
    let high = lower_byte (slice_index lower_digits (b / 16)) (digit_is_lower (b / 16) (omega (arith, small))) in
    let low = lower_byte (slice_index lower_digits (b % 16)) (digit_is_lower (b % 16) (omega (arith, small))) in
    rw (high, low, digits_bytes bytes (λ i. are (suc i))) refl

-- ---- trees

mark_bytes : (executable : Bool) → are_word_bytes (file_mark executable) ≡ true
mark_bytes true = refl
mark_bytes false = refl

separator_bytes : (first : Bool) → are_word_bytes (separator first) ≡ true
separator_bytes true = refl
separator_bytes false = refl

mutual
  tree_bytes : (tree : Tree) → HasBytes tree → are_word_bytes (tree_text_of tree) ≡ true
  tree_bytes (File executable bytes) are = both_words (file_mark executable) (encode_lower bytes) (mark_bytes executable) (digits_bytes bytes are)
  tree_bytes (Link target) are = both_words (codes "l:") (encode_lower target) refl (digits_bytes target are)
  tree_bytes (Directory entries) are =
      both_words (codes "d(" ++ entries_text_of true entries) (codes ")") (both_words (codes "d(") (entries_text_of true entries) refl (entries_bytes true entries are)) refl

  entries_bytes : (first : Bool) (entries : Entries) → HaveBytes entries → are_word_bytes (entries_text_of first entries) ≡ true
  entries_bytes first NoEntries are = refl
  entries_bytes first (Entry name tree others) are =
      let named = both_words (separator first) (encode_lower name) (separator_bytes first) (digits_bytes name are.0) in
      let front = both_words (separator first ++ encode_lower name) (codes "=") named refl in
      let whole = both_words ((separator first ++ encode_lower name) ++ codes "=") (tree_text_of tree) front (tree_bytes tree are.1) in
      both_words (((separator first ++ encode_lower name) ++ codes "=") ++ tree_text_of tree) (entries_text_of false others) whole (entries_bytes false others are.2)

some_text : (tree : Tree) → 0 < length (tree_text_of tree)
some_text (File true bytes) = omega arith
some_text (File false bytes) = omega arith
some_text (Link target) = omega arith
some_text (Directory es) = omega arith

pub tree_word : (tree : Tree) → HasBytes tree → is_word (tree_text_of tree) ≡ true
tree_word tree are = word_from (tree_text_of tree) (some_text tree) (tree_bytes tree are)

-- ---- numbers

number_last : (n : ℕ) (digits : List ℕ) (d : ℕ) → number_behind n (digits ++ d ∷ []) ≡ 10 * number_behind n digits + (d - 48)
number_last n [] d = refl
number_last n (c ∷ digits) d = number_last (10 * n + (c - 48)) digits d

digit_more : (digits : List ℕ) (d : ℕ) → list_all is_digit digits ≡ true → is_digit d ≡ true → list_all is_digit (digits ++ d ∷ []) ≡ true
digit_more digits d are is = list_all-append is_digit digits (d ∷ []) ∙ and_from (list_all is_digit digits) (list_all is_digit (d ∷ [])) are (rw is refl)

digit_of : (n : ℕ) → n < 10 → is_digit (48 + n) ≡ true
digit_of n small = grind (arith, nat_tests)

record Writes (n : ℕ) (digits : List ℕ) : Type 0 where
  number : number_behind 0 digits ≡ n
  all : list_all is_digit digits ≡ true

writes : (n : ℕ) → n < 2 ^ 64 → Writes n (decimal n)
writes = decimal_by_steps Writes
    (λ n small. record { number = omega arith; all = rw (digit_of n small) refl })
    (λ n digits least before. record {
      number = number_last 0 digits (48 + n % 10) ∙ omega (arith, before.number);
      all = digit_more digits (48 + n % 10) before.all (digit_of (n % 10) (omega arith));
    })

pub decimal_number : (n : ℕ) → n < 2 ^ 64 → number_behind 0 (decimal n) ≡ n
decimal_number n small = (writes n small).number

digits_word : (b : ℕ) → is_digit b ≡ true → is_word_byte b ≡ true
digits_word b is = grind (arith, nat_tests)

pub decimal_word : (n : ℕ) → n < 2 ^ 64 → is_word (decimal n) ≡ true
decimal_word n small = word_from (decimal n) (decimal_nonempty n small) (weaker is_digit is_word_byte digits_word (decimal n) (writes n small).all)

numeral_from : (digits : List ℕ) → 48 < get_or digits 0 0 → list_all is_digit digits ≡ true → is_numeral digits ≡ true
numeral_from [] first are = absurd (omega (arith, first))
numeral_from (d ∷ digits) first are =
    let parts = and_parts (is_digit d) (list_all is_digit digits) are in
    let low : nat_le 49 d ≡ true = grind (arith, nat_tests) in
    let high : nat_le d 57 ≡ true = (and_parts (nat_le 48 d) (nat_le d 57) parts.0).1 in
    rw (low, high, parts.1) refl

pub decimal_numeral : (n : ℕ) → 0 < n → n < 2 ^ 64 → is_numeral (decimal n) ≡ true
decimal_numeral n some small = numeral_from (decimal n) (first_decimal n some small) (writes n small).all
