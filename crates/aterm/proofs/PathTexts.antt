-- The texts of paths are strings that a derivation may have.
use Rattle.std.proofs.Common.{◌≡◌, ℕ, zero, suc, ◌/◌, ◌%◌, ◌<◌, true, ◌&&◌, List, [], ◌∷◌, ◌++◌, length, codes, refl, ap, ◌∙◌, arith}
use Rattle.std.specs.Prelude.{All, slice_index, slice_index_or, nat_lt, nat_le, not}
use Rattle.std.specs.List.{list_all}
use Rattle.std.proofs.lemmas.Bool.Decides.{nat_tests}
use Rattle.std.proofs.lemmas.List.Folds.{list_all-append}
use Rattle.std.proofs.lemmas.List.Sums.{AllPass-from_list_all, list_all-from_AllPass}
use Rattle.model.specs.Paths.{digits_32, digits_of, number_of, base32, is_name_byte, begins_with_dot, is_name, path_text, IsPath}
use Rattle.model.specs.Derivations.{is_character, is_text}
use Rattle.model.proofs.BoolLemmas.{both_parts}

name_byte : (b : ℕ) → is_name_byte b ≡ true → is_character b ≡ true
name_byte b h = grind (arith, nat_tests)

both_are : (xs ys : List ℕ) → is_text xs ≡ true → is_text ys ≡ true → is_text (xs ++ ys) ≡ true
both_are xs ys p q = rw (list_all-append is_character xs ys, p, q) refl

name_bytes : (bytes : List ℕ) → list_all is_name_byte bytes ≡ true → is_text bytes ≡ true
name_bytes [] h = refl
name_bytes (b ∷ bs) h =
    let passes = both_parts (is_name_byte b) (list_all is_name_byte bs) h in
    rw (name_byte b passes.0) (name_bytes bs passes.1)

name_is : (name : List ℕ) → is_name name ≡ true → is_text name ≡ true
unfolding is_name
name_is name h =
    let long = both_parts (nat_lt 0 (length name)) (nat_le (length name) 211 && (not (begins_with_dot name) && list_all is_name_byte name)) h in
    let short = both_parts (nat_le (length name) 211) (not (begins_with_dot name) && list_all is_name_byte name) long.1 in
    name_bytes name (both_parts (not (begins_with_dot name)) (list_all is_name_byte name) short.1).1

digit_is : (n : ℕ) → is_character (slice_index digits_32 (n % 32)) ≡ true
digit_is n =
    let within : n % 32 < 32 = omega arith in
    AllPass-from_list_all is_character digits_32 refl (n % 32) 0 within

digits_are : (k n : ℕ) → is_text (digits_of k n) ≡ true
unfolding digits_of
digits_are zero n = refl
digits_are (suc k) n =
    both_are (digits_of k (n / 32)) (slice_index digits_32 (n % 32) ∷ []) (digits_are k (n / 32)) (rw (digit_is n) refl)

pub path_is_text : (path : List ℕ) → IsPath path → is_text path ≡ true
unfolding path_text
path_is_text path p =
    ap is_text p.is
    ∙ both_are (codes "/nix/store/" ++ base32 p.hash_part ++ codes "-") p.name
    (both_are (codes "/nix/store/" ++ base32 p.hash_part) (codes "-") (both_are (codes "/nix/store/") (base32 p.hash_part) refl (digits_are 32 (number_of p.hash_part))) refl)
    (name_is p.name p.named)

pub paths_are_texts : (paths : List (List ℕ)) → All IsPath paths → list_all is_text paths ≡ true
paths_are_texts paths p = list_all-from_AllPass is_text paths (λ k d h. path_is_text (slice_index_or paths k d) (p k d h))
