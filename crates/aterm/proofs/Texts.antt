-- The text of a derivation, part behind part as it is read.
use Rattle.std.proofs.Common.{◌≡◌, ℕ, List, [], ◌∷◌, ◌++◌, map, codes, refl, ap, sym, ◌∙◌, append_assoc, append-nil}
use Rattle.std.specs.List.{flat_map}
use Rattle.model.specs.Derivations.{Derivation, character_text, quoted, listed, list_text, derivation_input_text, variable_text, derivation_text}

-- the text of items up to a closing mark, each written behind its separator
abbrev pub items_text : {X : Type 0} → (List ℕ → X → List ℕ) → List ℕ → List ℕ → List ℕ → List X → List ℕ
items_text text closing next separator [] = closing
items_text text closing next separator (x ∷ xs) = text separator x ++ items_text text closing next next xs

-- the characters of a string and the quote behind them
abbrev pub closed : List ℕ → List ℕ
closed text = flat_map character_text text ++ codes "\""

pub closed_is : (separator : List ℕ) (text : List ℕ) → items_text (λ _ c. character_text c) (codes "\"") [] separator text ≡ closed text
closed_is separator [] = refl
closed_is separator (c ∷ cs) = ap (λ s. character_text c ++ s) (closed_is [] cs) ∙ sym (append_assoc (character_text c) (flat_map character_text cs) (codes "\""))

-- a string between two tags, the first of which ends with the quote, behind a separator
abbrev pub member_text : List ℕ → List ℕ → List ℕ → List ℕ → List ℕ
member_text opening closing separator text = separator ++ (opening ++ (closed text ++ closing))

-- a variable, behind a separator
abbrev pub behind : List ℕ → List ℕ × List ℕ → List ℕ
behind separator v = separator ++ (codes "(\"" ++ (closed v.0 ++ (codes ",\"" ++ (closed v.1 ++ codes ")"))))

pub member_grouped : (s o t c r : List ℕ) → (s ++ (o ++ (t ++ c))) ++ r ≡ s ++ (o ++ (t ++ (c ++ r)))
member_grouped s o t c r = simp append_assoc

pub variable_grouped : (s o t c u e r : List ℕ) → (s ++ (o ++ (t ++ (c ++ (u ++ e))))) ++ r ≡ s ++ (o ++ (t ++ (c ++ (u ++ (e ++ r)))))
variable_grouped s o t c u e r = simp append_assoc

abbrev pub members_text : List ℕ → List ℕ → List ℕ → List (List ℕ) → List ℕ
members_text opening closing = items_text (member_text opening closing) (codes "]") (codes ",")

abbrev pub variables_text : List ℕ → List (List ℕ × List ℕ) → List ℕ
variables_text = items_text behind (codes "]") (codes ",")

inputs_is : (separator : List ℕ) (paths : List (List ℕ))
    → listed separator (map derivation_input_text paths) ≡ members_text (codes "(\"") (codes ",[\"out\"])") separator paths
unfolding listed derivation_input_text quoted
inputs_is separator [] = refl
inputs_is separator (p ∷ ps) = rw (inputs_is (codes ",") ps) (simp append_assoc)

strings_is : (separator : List ℕ) (texts : List (List ℕ)) → listed separator (map quoted texts) ≡ members_text (codes "\"") [] separator texts
unfolding listed quoted
strings_is separator [] = refl
strings_is separator (t ∷ ts) = rw (strings_is (codes ",") ts) (simp (append_assoc, append-nil))

regrouped : (s o q x c y e r : List ℕ)
    → s ++ (o ++ (q ++ x ++ q) ++ c ++ (q ++ y ++ q) ++ e) ++ r ≡ (s ++ ((o ++ q) ++ ((x ++ q) ++ ((c ++ q) ++ ((y ++ q) ++ e))))) ++ r
regrouped s o q x c y e r = simp append_assoc

variables_is : (separator : List ℕ) (vs : List (List ℕ × List ℕ)) → listed separator (map variable_text vs) ≡ variables_text separator vs
unfolding listed variable_text quoted
variables_is separator [] = refl
variables_is separator (v ∷ vs) =
    ap (λ s. separator ++ variable_text v ++ s) (variables_is (codes ",") vs)
    ∙ regrouped separator (codes "(") (codes "\"") (flat_map character_text v.0) (codes ",") (flat_map character_text v.1) (codes ")") (variables_text (codes ",") vs)

-- what stands before the first input
abbrev pub head : List ℕ
head = codes "Derive([(\"out\",\"\",\"\",\"\")],["

-- the text, part behind part
abbrev pub parts_text : Derivation → List ℕ
parts_text d =
    head ++ (members_text (codes "(\"") (codes ",[\"out\"])") [] d.inputs
    ++ (codes ",[" ++ (members_text (codes "\"") [] [] d.sources
    ++ (codes ",\"" ++ (closed d.platform
    ++ (codes ",\"" ++ (closed d.builder
    ++ (codes ",[" ++ (members_text (codes "\"") [] [] d.arguments
    ++ (codes ",[" ++ (variables_text [] d.environment
    ++ codes ")")))))))))))

all_regrouped : (h l c q e i s p b a v : List ℕ)
    → h ++ (l ++ i) ++ c ++ (l ++ s) ++ c ++ (q ++ p ++ q) ++ c ++ (q ++ b ++ q) ++ c ++ (l ++ a) ++ c ++ (l ++ v) ++ e
    ≡ (h ++ l) ++ (i ++ ((c ++ l) ++ (s ++ ((c ++ q) ++ ((p ++ q) ++ ((c ++ q) ++ ((b ++ q) ++ ((c ++ l) ++ (a ++ ((c ++ l) ++ (v ++ e)))))))))))
all_regrouped h l c q e i s p b a v = simp append_assoc

joined : {i i' s s' a a' v v' : List ℕ} → i ≡ i' → s ≡ s' → a ≡ a' → v ≡ v' → (f : List ℕ → List ℕ → List ℕ → List ℕ → List ℕ) → f i s a v ≡ f i' s' a' v'
joined {i} {i'} {s} {s'} {a} {a'} {v} {v'} p q r t f = ap (λ x. f x s a v) p ∙ ap (λ x. f i' x a v) q ∙ ap (λ x. f i' s' x v) r ∙ ap (λ x. f i' s' a' x) t

pub text_is : (d : Derivation) → derivation_text d ≡ parts_text d
unfolding derivation_text list_text quoted
text_is d =
    let i = inputs_is [] d.inputs in
    let s = strings_is [] d.sources in
    let a = strings_is [] d.arguments in
    let v = variables_is [] d.environment in
    all_regrouped (codes "Derive([(\"out\",\"\",\"\",\"\")],") (codes "[") (codes ",") (codes "\"") (codes ")") (listed [] (map derivation_input_text d.inputs)) (listed [] (map quoted d.sources))
    (flat_map character_text d.platform) (flat_map character_text d.builder) (listed [] (map quoted d.arguments)) (listed [] (map variable_text d.environment))
    ∙ joined i s a v (λ i s a v.
    head ++ (i ++ (codes ",[" ++ (s ++ (codes ",\"" ++ (closed d.platform ++ (codes ",\"" ++ (closed d.builder ++ (codes ",[" ++ (a ++ (codes ",[" ++ (v ++ codes ")"))))))))))))
