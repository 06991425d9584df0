-- Runs of bytes that stand for themselves, as they are written and as they are read.
use Rattle.std.proofs.Common.{◌≡◌, ℕ, zero, suc, Bool, ◌+◌, ◌-◌, ◌<◌, ◌≤◌, true, false, List, [], ◌∷◌, ◌++◌, codes, length, take, drop, get_or, get_or-take, length-take-le, length-drop, take-append-drop, refl, ap, sym, ◌∙◌, append_assoc, append-nil, arith}
use Rattle.std.proofs.lemmas.Grind.{flat_map-append}
use Rattle.std.proofs.lemmas.Bool.Decides.{nat_tests}
use Rattle.std.proofs.lemmas.List.Quantifiers.{position-Some}
use Rattle.std.proofs.lemmas.List.Sums.{fails_before_first}
use Rattle.aterm.proofs.ListTexts.{next_left}
use Rattle.std.specs.List.{flat_map, position}
use Rattle.std.specs.Prelude.{Option, Some, None}
use Rattle.model.specs.Derivations.{character_text, quoted}
use Rattle.model.specs.DerivationTexts.{tag_at, escaped_at, is_at, character_at, items_at, with_item_first}
use Rattle.aterm.proofs.Items.{onto, onto-push, one_more, loop_ends, loop_fails}
use Rattle.aterm.specs.Runs.{may_have_escape, ends_run}

-- no byte passes where none is found
none_passes : (p : ℕ → Bool) (text : List ℕ) → None ≡ position p text → (k : ℕ) → k < length text → p (get_or text k 0) ≡ false
none_passes p text none k lt = fails_before_first p text k 0 (grind (arith, nat_tests))

-- ---- as they are written

-- a byte with no escape is written as it stands
stands : (c : ℕ) → may_have_escape c ≡ false → character_text c ≡ c ∷ []
unfolding character_text
stands c e = grind (arith, nat_tests)

-- bytes with no escape are written as they stand
pub run_stands : (text : List ℕ) → ((k : ℕ) → k < length text → may_have_escape (get_or text k 0) ≡ false) → flat_map character_text text ≡ text
run_stands [] plain = refl
run_stands (c ∷ cs) plain = rw (stands c (plain 0 (omega arith)), run_stands cs (λ k lt. plain (suc k) (omega arith))) refl

-- a text is the bytes before its first escape, that byte, and what stands behind it
parted : (text : List ℕ) (k : ℕ) → k < length text → text ≡ take k text ++ (get_or text k 0 ∷ drop (k + 1) text)
parted text k lt = sym (take-append-drop k text) ∙ ap (λ rest. take k text ++ rest) (next_left text k 0 lt)

-- a run and the escape behind it are written, so that what is written and what is left are the same as before
pub run_next : (text : List ℕ) (k : ℕ) (out new left whole : List ℕ) → Some k ≡ position may_have_escape text
    → new ≡ out ++ take k text ++ character_text (get_or text k 0)
    → left ≡ drop (k + 1) text → out ++ flat_map character_text text ≡ whole → new ++ flat_map character_text left ≡ whole
run_next text k out new left whole found written behind before =
    let at = position-Some may_have_escape text k 0 (sym found) in
    let short : length (take k text) ≡ k = length-take-le k text (omega arith) in
    let plain : flat_map character_text (take k text) ≡ take k text =
    run_stands (take k text) (λ j lt. ap may_have_escape (get_or-take k text j 0 (omega arith)) ∙ at.2 j (omega arith)) in
    let escape = character_text (get_or text k 0) in
    let later = flat_map character_text (drop (k + 1) text) in
    let is : flat_map character_text text ≡ take k text ++ (escape ++ later) =
    ap (flat_map character_text) (parted text k at.0)
    ∙ flat_map-append character_text (take k text) (get_or text k 0 ∷ drop (k + 1) text)
    ∙ ap (λ run. run ++ (escape ++ later)) plain in
    rw (written, behind) (regrouped out (take k text) escape later ∙ ap (λ t. out ++ t) (sym is) ∙ before)
  where
    regrouped : (o r c t : List ℕ) → (o ++ r ++ c) ++ t ≡ o ++ (r ++ (c ++ t))
    regrouped o r c t = simp append_assoc

-- the last run is written, and then the quote is
pub string_ends : (text left old begun out new : List ℕ) → None ≡ position may_have_escape left → begun ≡ old ++ codes "\"" → new ≡ out ++ left
    → out ++ flat_map character_text left ≡ begun ++ flat_map character_text text → new ++ codes "\"" ≡ old ++ quoted text
unfolding quoted
string_ends text left old begun out new none first last so_far =
    let stands = ap (λ run. out ++ run) (sym (run_stands left (none_passes may_have_escape left none))) in
    ap (λ o. o ++ codes "\"") (last ∙ stands ∙ so_far ∙ ap (λ o. o ++ flat_map character_text text) first)
    ∙ joined old (codes "\"") (flat_map character_text text)
  where
    joined : (o q t : List ℕ) → o ++ q ++ t ++ q ≡ o ++ (q ++ t ++ q)
    joined o q t = simp append_assoc

-- ---- as they are read

-- what is read of a string, up to its quote
abbrev pub string_left : ℕ → List ℕ → Option (List ℕ × List ℕ)
string_left n bytes = items_at character_at (codes "\"") [] n [] bytes

-- what is read from the start is what is read from here, behind the characters so far
pub record IsLeft (whole : Option (List ℕ × List ℕ)) (characters bytes : List ℕ) : Type 0 where
  pub most : ℕ
  pub enough : length bytes ≤ most
  pub read : whole ≡ onto characters (string_left most bytes)

-- a byte that stands for itself is a character
plain_read : (c : ℕ) (bytes : List ℕ) → ends_run c ≡ false → (is_at (codes "\"") (c ∷ bytes) ≡ false) × (character_at [] (c ∷ bytes) ≡ Some (c, bytes))
unfolding character_at
plain_read c bytes e = (grind (arith, nat_tests), grind (arith, nat_tests))

plain_more : (c : ℕ) (bytes : List ℕ) (n : ℕ) → ends_run c ≡ false → string_left (suc n) (c ∷ bytes) ≡ with_item_first c (string_left n bytes)
plain_more c bytes n e = let p = plain_read c bytes e in one_more character_at (codes "\"") [] n [] (c ∷ bytes) c bytes p.0 p.1

-- a run is read
run_more : (k : ℕ) (characters bytes : List ℕ) (n : ℕ) → ((j : ℕ) → j < k → ends_run (get_or bytes j 0) ≡ false) → k ≤ length bytes
    → onto characters (string_left (k + n) bytes) ≡ onto (characters ++ take k bytes) (string_left n (drop k bytes))
run_more zero characters bytes n plain le =
    let same : 0 + n ≡ n = omega arith in
    ap (λ m. onto characters (string_left m bytes)) same ∙ ap (λ cs. onto cs (string_left n bytes)) (sym (append-nil characters))
run_more (suc k) characters [] n plain le = absurd (omega (arith, le))
run_more (suc k) characters (c ∷ bytes) n plain le =
    let one : suc k + n ≡ suc (k + n) = omega arith in
    ap (λ m. onto characters (string_left m (c ∷ bytes))) one
    ∙ ap (onto characters) (plain_more c bytes (k + n) (plain 0 (omega arith)))
    ∙ sym (onto-push characters c (string_left (k + n) bytes))
    ∙ run_more k (characters ++ c ∷ []) bytes n (λ j lt. plain (suc j) (omega arith)) (omega arith)
    ∙ ap (λ cs. onto cs (string_left n (drop k bytes))) (append_assoc characters (c ∷ []) (take k bytes))

-- a string of such bytes alone has no end
no_end : (n : ℕ) (bytes : List ℕ) → ((k : ℕ) → k < length bytes → ends_run (get_or bytes k 0) ≡ false) → string_left n bytes ≡ None
unfolding items_at character_at
no_end zero bytes plain = refl
no_end (suc n) [] plain = refl
no_end (suc n) (c ∷ bytes) plain =
    plain_more c bytes n (plain 0 (omega arith))
    ∙ ap (with_item_first c) (no_end n bytes (λ k lt. plain (suc k) (omega arith)))

-- a run is read, and there is a byte that ends it
pub run_read : (whole : Option (List ℕ × List ℕ)) (characters bytes : List ℕ) (k : ℕ) → IsLeft whole characters bytes → Some k ≡ position ends_run bytes
    → IsLeft whole (characters ++ take k bytes) (drop k bytes)
run_read whole characters bytes k left found =
    let at = position-Some ends_run bytes k 0 (sym found) in
    let enough = left.enough in
    let n = left.most - k in
    let more : left.most ≡ k + n = omega arith in
    record {
      most = n;
      enough = omega (arith, length-drop k bytes);
      read = left.read ∙ ap (λ m. onto characters (string_left m bytes)) more ∙ run_more k characters bytes n at.2 (omega arith);
    }

-- no byte ends the run
pub run_never_ends : (whole : Option (List ℕ × List ℕ)) (characters bytes : List ℕ) → IsLeft whole characters bytes
    → None ≡ position ends_run bytes → whole ≡ None
run_never_ends whole characters bytes left none =
    left.read ∙ ap (onto characters) (no_end left.most bytes (none_passes ends_run bytes none))

-- the quote is read
pub quote_read : (whole : Option (List ℕ × List ℕ)) (characters bytes after : List ℕ) → IsLeft whole characters bytes → is_at (codes "\"") bytes ≡ true
    → drop 1 bytes ≡ after → whole ≡ Some (characters, after)
quote_read whole characters [] after left here behind = absurd (cc)
quote_read whole characters (c ∷ bytes) after left here behind =
    let enough = left.enough in
    loop_ends character_at (codes "\"") [] whole characters left.most [] (c ∷ bytes) after left.read (omega arith) here behind

-- there is no character
pub none_read : (whole : Option (List ℕ × List ℕ)) (characters bytes : List ℕ) → IsLeft whole characters bytes → is_at (codes "\"") bytes ≡ false
    → character_at [] bytes ≡ None → whole ≡ None
none_read whole characters bytes left here none = loop_fails character_at (codes "\"") [] whole characters left.most [] bytes left.read here none

-- an escape is read
pub escape_read : (whole : Option (List ℕ × List ℕ)) (characters more bytes after : List ℕ) (c : ℕ) → IsLeft whole characters bytes
    → length after < length bytes → is_at (codes "\"") bytes ≡ false → character_at [] bytes ≡ Some (c, after)
    → characters ++ c ∷ [] ≡ more → IsLeft whole more after
escape_read whole characters more bytes after c left lt here read pushed =
    let enough = left.enough in
    let n = left.most - 1 in
    let one : left.most ≡ suc n = omega arith in
    record {
      most = n;
      enough = omega arith;
      read = left.read
          ∙ ap (λ m. onto characters (string_left m bytes)) one
          ∙ ap (onto characters) (one_more character_at (codes "\"") [] n [] bytes c after here read)
          ∙ sym (onto-push characters c (string_left n after))
          ∙ ap (λ cs. onto cs (string_left n after)) pushed;
    }

-- ---- a byte that ends a run, but is no quote

-- behind a backslash stands the letter of an escape
pub escape_is : (bytes letters : List ℕ) → tag_at (codes "\\") bytes ≡ Some letters → character_at [] bytes ≡ escaped_at letters
unfolding tag_at character_at
escape_is [] letters e = absurd (cc)
escape_is (c ∷ bytes) letters e = grind (arith, nat_tests)

-- no other byte begins a character
no_character : (c : ℕ) (bytes : List ℕ) → ends_run c ≡ true → is_at (codes "\"") (c ∷ bytes) ≡ false → tag_at (codes "\\") (c ∷ bytes) ≡ None
    → character_at [] (c ∷ bytes) ≡ None
unfolding tag_at character_at
no_character c bytes e here other = grind (arith, nat_tests)

pub no_escape : (text : List ℕ) (k : ℕ) → Some k ≡ position ends_run text → is_at (codes "\"") (drop k text) ≡ false
    → tag_at (codes "\\") (drop k text) ≡ None → character_at [] (drop k text) ≡ None
no_escape text k found here other =
    let at = position-Some ends_run text k 0 (sym found) in
    let next = next_left text k 0 at.0 in
    rw next (no_character (get_or text k 0) (drop (k + 1) text) at.1 (rw next at here) (rw next at other))

-- the letter of an escape is one byte
pub escape_shorter : (letters : List ℕ) (c : ℕ) (after : List ℕ) → escaped_at letters ≡ Some (c, after) → length letters ≡ length after + 1
unfolding escaped_at
escape_shorter [] c after e = absurd (cc)
escape_shorter (letter ∷ letters) c after e = grind (arith, nat_tests)

-- and so is the backslash
pub tag_shorter : (bytes letters : List ℕ) → tag_at (codes "\\") bytes ≡ Some letters → length bytes ≡ length letters + 1
unfolding tag_at
tag_shorter [] letters e = absurd (cc)
tag_shorter (c ∷ bytes) letters e = grind (arith, nat_tests)
