-- A text in which images are put is the text with the images written at the places of their keys, where no two of these share bytes.
use Rattle.std.proofs.Common.{◌≡◌, ℕ, zero, suc, ◌+◌, ◌-◌, ◌≤◌, inl, inr, Bool, true, false, List, [], ◌∷◌, ◌++◌, length, take, drop, refl, ap, sym, ◌∙◌, arith, subst}
use Rattle.std.proofs.lemmas.Bool.{cases_Bool, cases_lt, lt-ltb, or_parts, both_ways}
use Rattle.std.proofs.lemmas.List.{length-take, take-append-drop}
use Rattle.std.proofs.Math.Seq.{drop-append_seam}
use Rattle.model.specs.Occurrences.{Keys, Place, among, places_in, crowded, crowded_after}
use Rattle.model.specs.Substitutions.{Images, AreImages, image_of, keys_of, imaged, written_at, written, put_from, put_text}
use Rattle.scan.proofs.PlaceLemmas.{places_in-here, places_in-none_here, places_in-nil, key_fits}
use Rattle.scan.proofs.CrowdLemmas.{Within, Within-places_in}
use Rattle.hashmod.proofs.WriteLemmas.{Inside, Inside-wider, length-written, written-right}
use Rattle.rewrite.proofs.KeyLemmas.{AreKeys-images, Found, Found-places_in, Inside-places, image_is_part}

-- each place begins at lo or later, and 32 bytes or more behind the one before it
abbrev Apart : ℕ → List Place → Type 0
Apart lo [] = Unit {0}
Apart lo (p ∷ ps) = (lo ≤ p.0) × Apart (p.0 + 32) ps

-- places that are not crowded stand so
apart_after : (n : ℕ) (ps : List Place) → crowded_after n ps ≡ false → Apart (n + 32) ps
apart_after n [] none = tt
apart_after n (p ∷ ps) none =
    let parts = or_parts _ (crowded_after p.0 ps) none in
    elim (cases_lt p.0 (n + 32)) [
      | inl less ↦ absurd (both_ways _ parts.0 (lt-ltb p.0 (n + 32) less))
      | inr far ↦ (far, apart_after p.0 ps parts.1)
    ]

apart_from : (lo hi : ℕ) (ps : List Place) → Within lo hi ps → crowded ps ≡ false → Apart lo ps
apart_from lo hi [] within none = tt
apart_from lo hi (p ∷ ps) within none = (within.0, apart_after p.0 ps none)

-- and where none begins before the next byte
near : (n : ℕ) (ps : List Place) (hi : ℕ) → Apart (n + zero) ps → Within (n + 1) hi ps → Apart (n + 1 + zero) ps
near n [] hi apart within = tt
near n (p ∷ ps) hi apart within = (omega (arith, within.0), apart.1)

drop_nothing : (k : ℕ) → drop {A = ℕ} k [] ≡ []
drop_nothing zero = refl
drop_nothing (suc k) = refl

module _ (images : Images) (are : AreImages images) where
  -- their images are written from there on
  written_apart : (low lo hi : ℕ) (ps : List Place) → Apart lo ps → Within low hi ps → Found (among (keys_of images)) ps → Inside lo hi (imaged images ps)
  written_apart low lo hi [] apart within found = tt
  written_apart low lo hi (p ∷ ps) apart within found =
      let long = (image_is_part images are p.1 found.0).length in (
        apart.0,
        omega (arith, within.1, long),
        Inside-wider (p.0 + 32) hi lo hi (imaged images ps) (omega (arith, apart.0)) (omega arith)
            (written_apart low (p.0 + 32) hi ps apart.1 within.2 found.1),
      )

  inside_text : (n lo : ℕ) (text : List ℕ) → Apart lo (places_in (among (keys_of images)) n text)
      → Inside lo (n + length text) (imaged images (places_in (among (keys_of images)) n text))
  inside_text n lo text apart =
      let keys = among (keys_of images) in
      written_apart n lo (n + length text) (places_in keys n text) apart (Within-places_in keys (AreKeys-images images are) n text) (Found-places_in keys n text)

  -- what is put from a byte on is what is written from there on
  put_written : (n k : ℕ) (text : List ℕ) → Apart (n + k) (places_in (among (keys_of images)) n text)
      → put_from images k text ≡ drop k (written n (imaged images (places_in (among (keys_of images)) n text)) text)
  unfolding put_from
  put_written n k [] apart =
      let keys = among (keys_of images) in
      sym (ap (λ ps. drop k (written n (imaged images ps) [])) (places_in-nil keys n) ∙ drop_nothing k)
  put_written n (suc k) (b ∷ bs) apart =
      let keys = among (keys_of images) in
      elim (cases_Bool (keys (take 32 (b ∷ bs)))) [
        | inl here ↦ (
            let first = subst (Apart (n + suc k)) (places_in-here keys n b bs here) apart in
            absurd (omega (arith, first.0))
            )
        | inr none ↦ (
            let same = places_in-none_here keys n b bs none in
            let behind = subst (Apart (n + suc k)) same apart in
            let e : n + suc k ≡ n + 1 + k = omega arith in
            put_written (n + 1) k bs (subst (λ m. Apart m (places_in keys (n + 1) bs)) e behind)
            ∙ sym (ap (λ ps. drop (suc k) (written n (imaged images ps) (b ∷ bs))) same
            ∙ ap (drop (suc k)) (written-right n (n + 1 + length bs) (imaged images (places_in keys (n + 1) bs)) (b ∷ []) bs (Inside-places images are (n + 1) bs)))
            )
      ]
  put_written n zero (b ∷ bs) apart =
      let keys = among (keys_of images) in
      let rest = imaged images (places_in keys (n + 1) bs) in
      let w = take 32 (b ∷ bs) in
      elim (cases_Bool (keys (take 32 (b ∷ bs)))) [
        | inl here ↦ (
            let same = places_in-here keys n b bs here in
            let first = subst (Apart (n + zero)) same apart in
            let image = image_of images w in
            let long : length image ≡ 32 = (image_is_part images are w here).length in
            let fits = key_fits keys (AreKeys-images images are) (b ∷ bs) here in
            let e : n + 32 ≡ n + 1 + 31 = omega arith in
            let behind : Apart (n + 1 + 31) (places_in keys (n + 1) bs) = subst (λ m. Apart m (places_in keys (n + 1) bs)) e first.1 in
            let inside = inside_text (n + 1) (n + 1 + 31) bs behind in
            let short : length (take 31 bs) ≡ 31 = omega (arith, length-take 31 bs, fits) in
            let tail : put_from images 31 bs ≡ written (n + 1 + 31) rest (drop 31 bs) =
            put_written (n + 1) 31 bs behind
            ∙ ap (λ t. drop 31 (written (n + 1) rest t)) (sym (take-append-drop 31 bs))
            ∙ ap (drop 31) (written-right (n + 1) (n + 1 + length bs) rest (take 31 bs) (drop 31 bs)
            (subst (λ m. Inside (n + 1 + m) (n + 1 + length bs) rest) (sym short) inside))
            ∙ ap (λ m. drop 31 (take 31 bs ++ written (n + 1 + m) rest (drop 31 bs))) short
            ∙ ap (λ m. drop m (take 31 bs ++ written (n + 1 + 31) rest (drop 31 bs))) (sym short)
            ∙ drop-append_seam (take 31 bs) (written (n + 1 + 31) rest (drop 31 bs)) in
            let begins : n + length image ≡ n + 1 + 31 = omega (arith, long) in
            let front : written n ((n, image) ∷ rest) (b ∷ bs) ≡ image ++ written (n + 1 + 31) rest (drop 31 bs) =
            let none : n - n ≡ 0 = omega arith in
            let all : 0 + length image ≡ 32 = omega (arith, long) in
            ap (λ m. written n rest (written_at m image (b ∷ bs))) none
            ∙ ap (λ m. written n rest (image ++ drop m (b ∷ bs))) all
            ∙ written-right n (n + 1 + length bs) rest image (drop 31 bs)
            (subst (λ m. Inside m (n + 1 + length bs) rest) (sym begins) inside)
            ∙ ap (λ m. image ++ written m rest (drop 31 bs)) begins in
            rw here (ap (λ t. image ++ t) tail ∙ sym front ∙ sym (ap (λ ps. written n (imaged images ps) (b ∷ bs)) same))
            )
        | inr none ↦ (
            let same = places_in-none_here keys n b bs none in
            let behind = subst (Apart (n + zero)) same apart in
            rw none (ap (λ t. b ∷ t) (put_written (n + 1) zero bs (near n (places_in keys (n + 1) bs) (n + 1 + length bs) behind (Within-places_in keys (AreKeys-images images are) (n + 1) bs)))
            ∙ sym (ap (λ ps. written n (imaged images ps) (b ∷ bs)) same
            ∙ written-right n (n + 1 + length bs) rest (b ∷ []) bs (Inside-places images are (n + 1) bs)))
            )
      ]

-- a text with images put in is the text with the images written at the places of their keys
pub put_is_written : (images : Images) → AreImages images → (text : List ℕ) → crowded (places_in (among (keys_of images)) 0 text) ≡ false
    → put_text images text ≡ written 0 (imaged images (places_in (among (keys_of images)) 0 text)) text
put_is_written images are text none =
    let keys = among (keys_of images) in
    put_written images are 0 0 text (apart_from 0 (0 + length text) (places_in keys 0 text) (Within-places_in keys (AreKeys-images images are) 0 text) none)

pub length-put_text : (images : Images) → AreImages images → (s : List ℕ) → crowded (places_in (among (keys_of images)) 0 s) ≡ false
    → length (put_text images s) ≡ length s
length-put_text images are s none =
    ap length (put_is_written images are s none)
    ∙ length-written 0 (imaged images (places_in (among (keys_of images)) 0 s)) s (Inside-places images are 0 s)
