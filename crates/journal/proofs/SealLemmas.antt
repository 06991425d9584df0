-- The texts of seals.
use Rattle.std.proofs.Common.{◌≡◌, ◌≤◌, ℕ, zero, suc, false, eqb, List, [], ◌∷◌, ◌++◌, length, drop, get_or, Ok, ◌/◌, ◌%◌, refl, sym, ◌∙◌, ap, arith, append_assoc, length-append}
use Rattle.std.specs.Prelude.{codes}
use Rattle.std.proofs.lemmas.List.{drop_at}
use Rattle.hex.specs.Hex.{encode_with, encode_lower, lower_digits, decode_sized}
use Rattle.hex.proofs.HexLemmas.{length-encode_with, decode_sized-encode_lower}
use Rattle.journal.specs.Rows.{IsPlain}
use Rattle.journal.specs.Seals.{seal_of, IsDigest}

plain_at : (table : List ℕ) → IsPlain table → (n : ℕ) → eqb (get_or table n 0) 10 ≡ false
plain_at [] plain n = refl
plain_at (b ∷ table) plain zero = plain.0
plain_at (b ∷ table) plain (suc n) = plain_at table plain.1 n

pub plain-both : (text more : List ℕ) → IsPlain text → IsPlain more → IsPlain (text ++ more)
plain-both [] more plain also = also
plain-both (b ∷ text) more plain also = (plain.0, plain-both text more plain.1 also)

plain_digits : IsPlain lower_digits
plain_digits = (refl, (refl, (refl, (refl, (refl, (refl, (refl, (refl, (refl, (refl, (refl, (refl, (refl, (refl, (refl, (refl, tt))))))))))))))))

plain_hex : (bytes : List ℕ) → IsPlain (encode_with lower_digits bytes)
unfolding encode_with
plain_hex [] = tt
plain_hex (b ∷ bytes) = (plain_at lower_digits plain_digits (b / 16), (plain_at lower_digits plain_digits (b % 16), plain_hex bytes))

plain_mark : IsPlain (codes "#sha256 ")
plain_mark = (refl, (refl, (refl, (refl, (refl, (refl, (refl, (refl, tt))))))))

-- a seal is a row
pub plain-seal : (before replies : List ℕ) → IsPlain (seal_of before replies)
plain-seal before replies = plain-both (codes "#sha256 " ++ encode_lower before) (32 ∷ encode_lower replies)
    (plain-both (codes "#sha256 ") (encode_lower before) plain_mark (plain_hex before)) (refl, plain_hex replies)

module _ (before : List ℕ) (size : length before ≡ 32) where
  length-front : length ((codes "#sha256 " ++ encode_lower before) ++ 32 ∷ []) ≡ 73
  length-front =
      omega (
        arith,
        size,
        length-encode_with lower_digits before,
        length-append (codes "#sha256 " ++ encode_lower before) (32 ∷ []),
        length-append
            (codes "#sha256 ") (encode_lower before),
      )

  -- its digits of the replies
  pub digits_of : (replies row : List ℕ) → row ≡ seal_of before replies → drop 73 row ≡ encode_lower replies
  digits_of replies row is =
      ap (λ (l : List ℕ). drop 73 l) (is ∙ sym (append_assoc (codes "#sha256 " ++ encode_lower before) (32 ∷ []) (encode_lower replies)))
      ∙ drop_at ((codes "#sha256 " ++ encode_lower before) ++ 32 ∷ []) (encode_lower replies) 73 length-front

  pub length-seal : (replies row : List ℕ) → row ≡ seal_of before replies → 73 ≤ length row
  length-seal replies row is =
      omega (
        arith,
        ap length (is ∙ sym (append_assoc (codes "#sha256 " ++ encode_lower before) (32 ∷ []) (encode_lower replies))),
        length-front,
        length-append ((codes "#sha256 " ++ encode_lower before) ++ 32 ∷ []) (encode_lower replies),
      )

  pub decodes : (replies row : List ℕ) → IsDigest replies → row ≡ seal_of before replies → decode_sized (drop 73 row) 32 ≡ Ok replies
  decodes replies row digest is = ap (λ (l : List ℕ). decode_sized l 32) (digits_of replies row is)
      ∙ decode_sized-encode_lower replies 32 digest.size digest.bytes
