-- The parts of a derivation's text as they are written.
use Rattle.std.proofs.Common.{◌≡◌, ℕ, List, [], ◌∷◌, ◌++◌, map, codes, refl, ap, ◌∙◌, append_assoc, append-nil}
use Rattle.model.specs.Derivations.{Derivation, quoted, listed, list_text, derivation_input_text, variable_text, derivation_text}
use Rattle.aterm.specs.Writing.{between, members, rest_text}

-- strings between no tags
map-between : (texts : List (List ℕ)) → map (between [] []) texts ≡ map quoted texts
map-between [] = refl
map-between (t ∷ ts) = λ i. append-nil (quoted t) i ∷ map-between ts i

-- the inputs, between their tags
map-input : (paths : List (List ℕ)) → map (between (codes "(") (codes ",[\"out\"])")) paths ≡ map derivation_input_text paths
unfolding derivation_input_text
map-input [] = refl
map-input (p ∷ ps) = ap (λ ss. derivation_input_text p ∷ ss) (map-input ps)

-- the inputs and the rest are the text
pub all_written : (d : Derivation) (inputs : List (List ℕ)) (out : List ℕ)
    → out ≡ codes "Derive([(\"out\",\"\",\"\",\"\")],[" ++ members (codes "(") (codes ",[\"out\"])") inputs
    → out ++ rest_text d ≡ derivation_text (record d { inputs = inputs })
unfolding list_text derivation_text
all_written d inputs out front =
    ap (λ o. o ++ rest_text d) front
    ∙ ap (λ i. codes "Derive([(\"out\",\"\",\"\",\"\")],[" ++ listed [] i ++ rest_text d) (map-input inputs)
    ∙ joined (codes "Derive([(\"out\",\"\",\"\",\"\")],") (codes "[") (listed [] (map derivation_input_text inputs)) (codes ",") (list_text (map quoted d.sources))
    (quoted d.platform) (quoted d.builder) (list_text (map quoted d.arguments)) (list_text (map variable_text d.environment)) (codes ")")
  where
    joined : (h o i c s p b a v e : List ℕ)
        → (h ++ o) ++ i ++ (c ++ s ++ c ++ p ++ c ++ b ++ c ++ a ++ c ++ v ++ e) ≡ h ++ (o ++ i) ++ c ++ s ++ c ++ p ++ c ++ b ++ c ++ a ++ c ++ v ++ e
    joined h o i c s p b a v e = simp append_assoc

-- the parts of the rest, one behind another
pub rest_written : (d : Derivation) (old sources platform builder arguments variables : List ℕ)
    → sources ≡ old ++ codes ",[" ++ members [] [] d.sources
    → platform ≡ sources ++ codes "," ++ between [] [] d.platform
    → builder ≡ platform ++ codes "," ++ between [] [] d.builder
    → arguments ≡ builder ++ codes ",[" ++ members [] [] d.arguments
    → variables ≡ arguments ++ codes ",[" ++ listed [] (map variable_text d.environment)
    → variables ++ codes ")" ≡ old ++ rest_text d
unfolding list_text
rest_written d old sources platform builder arguments variables s p b a v =
    rw (v, a, b, p, s) (untagged ∙ joined old (codes ",") (codes "[") (listed [] (map quoted d.sources)) (quoted d.platform) (quoted d.builder)
    (listed [] (map quoted d.arguments)) (listed [] (map variable_text d.environment)) (codes ")"))
  where
    untagged : old ++ codes ",[" ++ members [] [] d.sources ++ codes "," ++ between [] [] d.platform ++ codes "," ++ between [] [] d.builder
        ++ codes ",[" ++ members [] [] d.arguments ++ codes ",[" ++ listed [] (map variable_text d.environment) ++ codes ")"
        ≡ old ++ codes ",[" ++ listed [] (map quoted d.sources) ++ codes "," ++ quoted d.platform ++ codes "," ++ quoted d.builder
        ++ codes ",[" ++ listed [] (map quoted d.arguments) ++ codes ",[" ++ listed [] (map variable_text d.environment) ++ codes ")"
    untagged = λ i. old ++ codes ",[" ++ listed [] (map-between d.sources i)
        ++ codes "," ++ append-nil (quoted d.platform) i ++ codes "," ++ append-nil (quoted d.builder) i
        ++ codes ",[" ++ listed [] (map-between d.arguments i) ++ codes ",[" ++ listed [] (map variable_text d.environment) ++ codes ")"

    joined : (o c l s p b a v e : List ℕ)
        → o ++ (c ++ l) ++ s ++ c ++ p ++ c ++ b ++ (c ++ l) ++ a ++ (c ++ l) ++ v ++ e
        ≡ o ++ (c ++ (l ++ s) ++ c ++ p ++ c ++ b ++ c ++ (l ++ a) ++ c ++ (l ++ v) ++ e)
    joined o c l s p b a v e = simp append_assoc
