-- The digits of what builders wrote.
use Rattle.std.proofs.Common.{◌≡◌, ◌⊎◌, inl, inr, ℕ, suc, ◌/◌, ◌%◌, ◌<◌, true, false, List, [], ◌∷◌, refl, sym, ◌∙◌, ap, arith}
use Rattle.std.specs.List.{list_all}
use Rattle.hex.specs.Hex.{encode_lower, encode_with, decode_of}
use Rattle.hex.specs.declared.error.FromHexError.{FromHexError}
use Rattle.hex.specs.declared.error.FromHexError.TheVariants.{OutOfMemory}
use Rattle.hex.proofs.HexLemmas.{decode_of-encode_lower}
use Rattle.model.specs.Archives.{AreBytes}
use Rattle.tree_text.specs.TextReading.{is_lower_digit}
use Rattle.tree_text.proofs.LowerDigits.{digit_is_lower}
use Rattle.std.specs.Prelude.{Err}

-- the digits of bytes are in lower case
encoded-lower : (bytes : List ℕ) → AreBytes bytes → list_all is_lower_digit (encode_lower bytes) ≡ true
unfolding encode_with
encoded-lower [] b = refl
encoded-lower (x ∷ xs) b =
    let fits : x < 256 = b 0 in
    let high = digit_is_lower (x / 16) (omega arith) in
    let low = digit_is_lower (x % 16) (omega arith) in
    rw (high, low) (encoded-lower xs (λ i. b (suc i)))

-- digits of which not all are in lower case are those of no bytes
pub not-lower : (digits bytes : List ℕ) → list_all is_lower_digit digits ≡ false → AreBytes bytes → encode_lower bytes ≡ digits → ⊥
not-lower digits bytes h b e = cc (sym (encoded-lower bytes b) ∙ ap (list_all is_lower_digit) e ∙ h)

-- nor are digits that do not decode, where that is for no want of memory
pub not-read : (digits bytes : List ℕ) (why : FromHexError) → (why ≡ OutOfMemory) ⊎ (decode_of digits ≡ Err why) → (why ≡ OutOfMemory → ⊥)
    → AreBytes bytes → encode_lower bytes ≡ digits → ⊥
not-read digits bytes why d n b e = elim d [
  | inl none ↦ n none
  | inr h ↦ cc (sym (decode_of-encode_lower bytes b) ∙ ap decode_of e ∙ h)
]
