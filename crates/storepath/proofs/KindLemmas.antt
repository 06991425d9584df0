-- References, kinds and fingerprints, appended to a text.
use Rattle.std.proofs.Common.{◌≡◌, ℕ, ◌+◌, ◌<◌, List, [], ◌∷◌, ◌++◌, length, get_or, take, false, refl, sym, ap, ◌∙◌, append_assoc, append-nil}
use Rattle.std.specs.Prelude.{codes}
use Rattle.std.proofs.lemmas.List.{take_more}
use Rattle.hex.specs.Hex.{encode_lower}
use Rattle.model.specs.Paths.{Kind, Output, references_text, kind_text, fingerprint}

references_text-append : (xs ys : List (List ℕ)) → references_text (xs ++ ys) ≡ references_text xs ++ references_text ys
unfolding references_text
references_text-append [] ys = refl
references_text-append (x ∷ xs) ys = rw (references_text-append xs ys) (sym (append_assoc (codes ":" ++ x) (references_text xs) (references_text ys)))

-- one more reference
pub references_text-more : (paths : List (List ℕ)) (i : ℕ) (path : List ℕ) → i < length paths → path ≡ get_or paths i path
    → references_text (take (i + 1) paths) ≡ (references_text (take i paths) ++ codes ":") ++ path
unfolding references_text
references_text-more paths i path h is =
    rw (take_more paths i path h, ← is, references_text-append (take i paths) (path ∷ []), append-nil) (sym (append_assoc (references_text (take i paths)) (codes ":") path))

-- the text of an output that does not refer to itself, appended part by part
pub output-appended : (references : List (List ℕ)) (start first second : List ℕ) → first ≡ start ++ codes "source"
    → second ≡ first ++ references_text references → second ≡ start ++ kind_text (Output references false)
unfolding kind_text
output-appended references start first second e₁ e₂ =
    rw (e₂, e₁) (append_assoc start (codes "source") (references_text references)
    ∙ ap (λ t. start ++ (codes "source" ++ t)) (sym (append-nil (references_text references))))

-- a fingerprint, appended part by part
pub fingerprint-appended : (kind : Kind) (digest name start first second third fourth last : List ℕ) → start ≡ [] → first ≡ start ++ kind_text kind
    → second ≡ first ++ codes ":sha256:" → third ≡ second ++ encode_lower digest → fourth ≡ third ++ codes ":/nix/store:"
    → last ≡ fourth ++ name → last ≡ fingerprint kind digest name
unfolding fingerprint
fingerprint-appended kind digest name start first second third fourth last e₀ e₁ e₂ e₃ e₄ e₅ = rw (e₅, e₄, e₃, e₂, e₁, e₀) refl
