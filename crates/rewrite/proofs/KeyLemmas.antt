-- The keys of images, and where their images are written.
use Rattle.std.proofs.Common.{◌≡◌, ℕ, ◌+◌, inl, inr, true, List, [], ◌∷◌, ◌++◌, length, take, sym, arith, subst}
use Rattle.std.specs.Str.{bytes_eq}
use Rattle.std.proofs.lemmas.Bool.{cases_Bool, or_cases, false≢true, both_ways}
use Rattle.std.proofs.lemmas.Slice.Eq.{bytes_eq-Decides}
use Rattle.model.specs.Archives.{archive_string}
use Rattle.model.specs.Occurrences.{Keys, AreKeys, IsHashPart, Place, among, places_in, Piece, Mark, Text, piece_text, joined, places_of_pieces}
use Rattle.model.specs.Substitutions.{Images, AreImages, image_of, keys_of, imaged}
use Rattle.scan.proofs.PlaceLemmas.{places_in-here, places_in-none_here, places_in-nil}
use Rattle.scan.proofs.CrowdLemmas.{Within, Within-places_in, Within-pieces}
use Rattle.hashmod.proofs.WriteLemmas.{Inside}

-- ---- keys and images

key_is_part : (images : Images) → AreImages images → AreKeys (among (keys_of images))
key_is_part [] are w found = absurd (false≢true found)
key_is_part (e ∷ es) are w found =
    elim (or_cases (bytes_eq e.0 w) (among (keys_of es) w) found) [
      | inl here ↦ subst IsHashPart ((bytes_eq-Decides e.0 w).0 here) are.0
      | inr later ↦ key_is_part es are.2 w later
    ]

pub AreKeys-images : (images : Images) → AreImages images → AreKeys (among (keys_of images))
AreKeys-images = key_is_part

pub image_is_part : (images : Images) → AreImages images → (key : List ℕ) → among (keys_of images) key ≡ true → IsHashPart (image_of images key)
image_is_part [] are key found = absurd (false≢true found)
image_is_part (e ∷ es) are key found =
    elim (cases_Bool (bytes_eq e.0 key)) [
      | inl here ↦ rw here are.1
      | inr other ↦ elim (or_cases (bytes_eq e.0 key) (among (keys_of es) key) found) [
        | inl here ↦ absurd (both_ways (bytes_eq e.0 key) other here)
        | inr later ↦ rw other (image_is_part es are.2 key later)
      ]
    ]

-- each place is of a key
abbrev pub Found : Keys → List Place → Type 0
Found keys [] = Unit {0}
Found keys (p ∷ ps) = (keys p.1 ≡ true) × Found keys ps

Found-append : (keys : Keys) (ps qs : List Place) → Found keys ps → Found keys qs → Found keys (ps ++ qs)
Found-append keys [] qs h k = k
Found-append keys (p ∷ ps) qs h k = (h.0, Found-append keys ps qs h.1 k)

pub Found-places_in : (keys : Keys) (n : ℕ) (text : List ℕ) → Found keys (places_in keys n text)
Found-places_in keys n [] = subst (Found keys) (sym (places_in-nil keys n)) tt
Found-places_in keys n (b ∷ bs) =
    elim (cases_Bool (keys (take 32 (b ∷ bs)))) [
      | inl found ↦ subst (Found keys) (sym (places_in-here keys n b bs found)) (found, Found-places_in keys (n + 1) bs)
      | inr unfound ↦ subst (Found keys) (sym (places_in-none_here keys n b bs unfound)) (Found-places_in keys (n + 1) bs)
    ]

pub Found-pieces : (keys : Keys) (n : ℕ) (ps : List Piece) → Found keys (places_of_pieces keys n ps)
Found-pieces keys n [] = tt
Found-pieces keys n (Mark tag ∷ ps) = Found-pieces keys (n + length (archive_string tag)) ps
Found-pieces keys n (Text role s ∷ ps) =
    Found-append keys (places_in keys (n + 24) s) (places_of_pieces keys (n + length (piece_text (Text role s))) ps) (Found-places_in keys (n + 24) s)
    (Found-pieces keys (n + length (piece_text (Text role s))) ps)

Inside-imaged : (images : Images) → AreImages images → (lo hi : ℕ) (ps : List Place) → Within lo hi ps → Found (among (keys_of images)) ps
    → Inside lo hi (imaged images ps)
Inside-imaged images are lo hi [] h k = tt
Inside-imaged images are lo hi (p ∷ ps) h k =
    let long = (image_is_part images are p.1 k.0).length in
    (h.0, omega (arith, h.1, long), Inside-imaged images are lo hi ps h.2 k.1)

pub Inside-pieces : (images : Images) → AreImages images → (n : ℕ) (ps : List Piece)
    → Inside n (n + length (joined ps)) (imaged images (places_of_pieces (among (keys_of images)) n ps))
Inside-pieces images are n ps =
    let keys = among (keys_of images) in
    Inside-imaged images are n (n + length (joined ps)) (places_of_pieces keys n ps) (Within-pieces keys (key_is_part images are) n ps)
    (Found-pieces keys n ps)

pub Inside-places : (images : Images) → AreImages images → (n : ℕ) (s : List ℕ)
    → Inside n (n + length s) (imaged images (places_in (among (keys_of images)) n s))
Inside-places images are n s =
    let keys = among (keys_of images) in
    Inside-imaged images are n (n + length s) (places_in keys n s) (Within-places_in keys (key_is_part images are) n s) (Found-places_in keys n s)
