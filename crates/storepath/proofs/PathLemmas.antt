-- The parts of a path's text.
use Rattle.std.proofs.Common.{◌≡◌, ℕ, ◌+◌, ◌-◌, ◌/◌, ◌%◌, ◌^◌, ◌≤◌, true, false, List, [], ◌∷◌, ◌++◌, length, take, drop, refl, sym, ◌∙◌, ap, arith, append_assoc}
use Rattle.std.specs.Prelude.{codes, nat_lt, IsTrue}
use Rattle.std.specs.List.{list_all}
use Rattle.std.specs.Str.{IsAscii, IsUtf8}
use Rattle.std.proofs.lemmas.Bool.{and_parts, false≢true}
use Rattle.std.proofs.lemmas.Bool.Decides.{Decides-ltb}
use Rattle.std.proofs.lemmas.List.{append_cancel_left, take-append-drop, drop_at, take_at, length-append, drop-drop}
use Rattle.std.proofs.lemmas.Str.{IsAscii-append, IsUtf8-from_ascii}
use Rattle.std.proofs.lemmas.Str.Ascii.{IsAscii-nil, IsAscii-cons, IsAscii-from_reads}
use Rattle.model.specs.Paths.{base32, digits_32, number_of, path_text, is_name, IsFolded, IsPath}
use Rattle.storepath.proofs.DigitLemmas.{length-digits_of, get_or-digits_of}
use Rattle.storepath.proofs.NameLemmas.{name_is_ascii}
use Rattle.storepath.specs.Parts.{hash_part_of, name_of}

pub length-base32 : (bytes : List ℕ) → length (base32 bytes) ≡ 32
length-base32 bytes = length-digits_of 32 (number_of bytes)

-- the text of a path, part by part
pub parts_of-path_text : (hash_part name : List ℕ) → path_text hash_part name ≡ codes "/nix/store/" ++ (base32 hash_part ++ (codes "-" ++ name))
unfolding path_text
parts_of-path_text hash_part name = simp append_assoc

pub drop-path_text : (hash_part name : List ℕ) → drop 11 (path_text hash_part name) ≡ base32 hash_part ++ (codes "-" ++ name)
drop-path_text hash_part name = rw (parts_of-path_text hash_part name) refl

pub hash_part_of-path_text : (hash_part name : List ℕ) → hash_part_of (path_text hash_part name) ≡ base32 hash_part
hash_part_of-path_text hash_part name =
    ap (take 32) (drop-path_text hash_part name) ∙ take_at (base32 hash_part) (codes "-" ++ name) 32 (length-base32 hash_part)

pub behind_digits : (hash_part name : List ℕ) → drop 32 (drop 11 (path_text hash_part name)) ≡ codes "-" ++ name
behind_digits hash_part name =
    ap (drop 32) (drop-path_text hash_part name) ∙ drop_at (base32 hash_part) (codes "-" ++ name) 32 (length-base32 hash_part)

pub name_of-path_text : (hash_part name : List ℕ) → name_of (path_text hash_part name) ≡ name
name_of-path_text hash_part name =
    sym (drop-drop 33 11 (path_text hash_part name)) ∙ sym (drop-drop 1 32 (drop 11 (path_text hash_part name))) ∙ ap (drop 1) (behind_digits hash_part name)

pub length-path_text : (hash_part name : List ℕ) → length (path_text hash_part name) ≡ 44 + length name
length-path_text hash_part name =
    let long = length-base32 hash_part in
    ap length (parts_of-path_text hash_part name) ∙ omega (arith, long, length-append (base32 hash_part) (codes "-" ++ name))

pub length-IsPath : (text : List ℕ) → IsPath text → 44 ≤ length text
length-IsPath text path = omega (arith, ap length path.is, length-path_text path.hash_part path.name)

ascii_by_test : (text : List ℕ) → list_all (λ b. nat_lt b 128) text ≡ true → IsAscii text
ascii_by_test [] h = IsAscii-nil
ascii_by_test (b ∷ bs) h =
    let parts = and_parts (nat_lt b 128) (list_all (λ c. nat_lt c 128) bs) h in
    IsAscii-cons b bs ((Decides-ltb b 128).0 parts.0) (ascii_by_test bs parts.1)

pub base32_is_ascii : (bytes : List ℕ) → IsAscii (base32 bytes)
base32_is_ascii bytes =
    IsAscii-from_reads (base32 bytes) 32 (omega (arith, length-base32 bytes)) (λ k h.
    rw (get_or-digits_of 32 (number_of bytes) k (31 - k) (omega arith)) (ascii_by_test digits_32 refl (number_of bytes / 32 ^ (31 - k) % 32)))

pub path_is_utf8 : (text : List ℕ) → IsPath text → IsUtf8 text
path_is_utf8 text path =
    let name = IsAscii-append (codes "-") path.name (ascii_by_test (codes "-") refl) (name_is_ascii path.name path.named) in
    let rest = IsAscii-append (base32 path.hash_part) (codes "-" ++ path.name) (base32_is_ascii path.hash_part) name in
    let whole = IsAscii-append (codes "/nix/store/") (base32 path.hash_part ++ (codes "-" ++ path.name)) (ascii_by_test (codes "/nix/store/") refl) rest in
    IsUtf8-from_ascii text (rw (path.is, parts_of-path_text path.hash_part path.name) whole)

-- what stands behind the store's name
pub rest_of : (text rest : List ℕ) (path : IsPath text) → text ≡ codes "/nix/store/" ++ rest → rest ≡ base32 path.hash_part ++ (codes "-" ++ path.name)
rest_of text rest path e =
    append_cancel_left (codes "/nix/store/") rest (base32 path.hash_part ++ (codes "-" ++ path.name)) (sym e ∙ path.is ∙ parts_of-path_text path.hash_part path.name)

pub digits_in : (text rest : List ℕ) (path : IsPath text) → text ≡ codes "/nix/store/" ++ rest → take 32 rest ≡ base32 path.hash_part
digits_in text rest path e =
    ap (take 32) (rest_of text rest path e) ∙ take_at (base32 path.hash_part) (codes "-" ++ path.name) 32 (length-base32 path.hash_part)

pub behind_digits_in : (text rest : List ℕ) (path : IsPath text) → text ≡ codes "/nix/store/" ++ rest → drop 32 rest ≡ codes "-" ++ path.name
behind_digits_in text rest path e =
    ap (drop 32) (rest_of text rest path e) ∙ drop_at (base32 path.hash_part) (codes "-" ++ path.name) 32 (length-base32 path.hash_part)

pub long_enough : (text rest : List ℕ) (path : IsPath text) → text ≡ codes "/nix/store/" ++ rest → 32 ≤ length rest
long_enough text rest path e =
    omega (arith, ap length (rest_of text rest path e), length-append (base32 path.hash_part) (codes "-" ++ path.name), length-base32 path.hash_part)

-- a path, put together
pub joined_path : (text rest name hash_part : List ℕ) → text ≡ codes "/nix/store/" ++ rest → drop 32 rest ≡ codes "-" ++ name → IsFolded hash_part
    → base32 hash_part ≡ take 32 rest → is_name name ≡ true → IsPath text
joined_path text rest name hash_part store dash folded digits named = record {
  hash_part = hash_part;
  name = name;
  folded = folded;
  named = named;
  is = store ∙ ap (λ part. codes "/nix/store/" ++ part) (sym (take-append-drop 32 rest) ∙ rw (dash, digits) refl) ∙ sym (parts_of-path_text hash_part name);
}

-- no path, and the test says so
pub not_a_path : (text : List ℕ) → (IsPath text → ⊥) → (IsTrue false → IsPath text) × (IsPath text → IsTrue false)
not_a_path text none = (λ h. absurd (false≢true h), λ path. absurd (none path))
