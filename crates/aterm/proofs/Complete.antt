-- What is written is read again, whatever follows it.
use Rattle.std.proofs.Common.{◌≡◌, ℕ, zero, suc, ◌+◌, ◌<◌, ◌≤◌, ◌⊎◌, inl, inr, Bool, true, false, ◌&&◌, List, [], ◌∷◌, ◌++◌, length, codes, refl, ap, sym, subst, ◌∙◌, append_assoc, arith, lit<, length-append}
use Rattle.std.proofs.Math.Seq.{take-append_seam, drop-append_seam}
use Rattle.std.proofs.lemmas.Bool.Decides.{nat_tests, eqb_tells}
use Rattle.std.specs.Prelude.{Some, ◌==◌, nat_le}
use Rattle.std.specs.List.{list_all, flat_map}
use Rattle.model.proofs.BoolLemmas.{both_parts, bytes_same}
use Rattle.model.specs.Derivations.{Derivation, has_texts, is_character, is_text, is_variable, character_text, derivation_text}
use Rattle.aterm.proofs.Texts.{head, items_text, closed, closed_is, member_text, members_text, behind, variables_text, text_is, member_grouped, variable_grouped}
use Rattle.model.specs.Results.{◌>>=◌}
use Rattle.model.specs.DerivationTexts.{ItemReader, is_at, tag_at, with_item_first, items_at, escaped_at, character_at, quoted_at, member_at, members_at, variable_at, variables_at, derivation_at}

-- ---- tags

pub is_at_front : (tag rest : List ℕ) → is_at tag (tag ++ rest) ≡ true
is_at_front tag rest = rw (take-append_seam tag rest) (bytes_same tag)

pub tag_again : (tag rest : List ℕ) → tag_at tag (tag ++ rest) ≡ Some rest
unfolding tag_at
tag_again tag rest = rw (take-append_seam tag rest, bytes_same tag, drop-append_seam tag rest) refl

-- ---- items

-- of an item that passes the test the text is read as the item, and is no closing mark, behind the separators that are used
pub record ReadsAgain (X : Type 0) (item : ItemReader X) (text : List ℕ → X → List ℕ) (test : X → Bool) (closing : List ℕ) (Used : List ℕ → Type 0) : Type 0 where
  pub again : (separator : List ℕ) (x : X) (rest : List ℕ) → Used separator → test x ≡ true → item separator (text separator x ++ rest) ≡ Some (x, rest)
  pub apart : (separator : List ℕ) (x : X) (rest : List ℕ) → Used separator → test x ≡ true → is_at closing (text separator x ++ rest) ≡ false

pub items_again : {X : Type 0} (item : ItemReader X) (text : List ℕ → X → List ℕ) (test : X → Bool) (closing next : List ℕ) (Used : List ℕ → Type 0)
    → ReadsAgain X item text test closing Used → Used next
    → (xs : List X) (n : ℕ) (separator rest : List ℕ) → Used separator → list_all test xs ≡ true → length xs < n
    → items_at item closing next n separator (items_text text closing next separator xs ++ rest) ≡ Some (xs, rest)
unfolding items_at
items_again item text test closing next Used reads u xs zero separator rest v h lt = absurd (omega (arith, lt))
items_again item text test closing next Used reads u [] (suc n) separator rest v h lt = rw (is_at_front closing rest, drop-append_seam closing rest) refl
items_again item text test closing next Used reads u (x ∷ xs) (suc n) separator rest v h lt =
    let passes = both_parts (test x) (list_all test xs) h in
    let more = items_text text closing next next xs in
    let others = items_again item text test closing next Used reads u xs n next rest u passes.1 (omega (arith, lt)) in
    ap (items_at item closing next (suc n) separator) (append_assoc (text separator x) more rest)
    ∙ rw (reads.apart separator x (more ++ rest) v passes.0, reads.again separator x (more ++ rest) v passes.0) (ap (with_item_first x) others)

-- each item has some text
pub count_le : {X : Type 0} (text : List ℕ → X → List ℕ) (closing next : List ℕ) → ((separator : List ℕ) (x : X) → 0 < length (text separator x))
    → (separator : List ℕ) (xs : List X)
    → length xs + length closing ≤ length (items_text text closing next separator xs)
count_le text closing next some separator [] = omega arith
count_le text closing next some separator (x ∷ xs) =
    omega (arith, count_le text closing next some next xs, some separator x, length-append (text separator x) (items_text text closing next next xs))

-- ---- characters

abbrev IsAgain : List ℕ → ℕ → Type 0
IsAgain rest c = (character_at [] (character_text c ++ rest) ≡ Some (c, rest)) × (is_at (codes "\"") (character_text c ++ rest) ≡ false)

plain_again : (c : ℕ) (rest : List ℕ) → is_character c ≡ true → (c == 34) ≡ false → (c == 92) ≡ false → (c == 10) ≡ false → (c == 13) ≡ false
    → (c == 9) ≡ false → IsAgain rest c
unfolding character_at character_text
plain_again c rest h quote backslash newline return tab =
    let within : (nat_le 32 c && nat_le c 126) ≡ true = grind (arith, nat_tests) in
    rw (quote, backslash, newline, return, tab, quote, backslash, within) (refl, refl)

character_again : (c : ℕ) (rest : List ℕ) → is_character c ≡ true → IsAgain rest c
unfolding character_at escaped_at character_text
character_again c rest h =
    elim (eqb_tells c 34) [
      | inl e ↦ subst (IsAgain rest) (sym e.1) (refl, refl)
      | inr quote ↦
          elim (eqb_tells c 92) [
            | inl e ↦ subst (IsAgain rest) (sym e.1) (refl, refl)
            | inr backslash ↦
                elim (eqb_tells c 10) [
                  | inl e ↦ subst (IsAgain rest) (sym e.1) (refl, refl)
                  | inr newline ↦
                      elim (eqb_tells c 13) [
                        | inl e ↦ subst (IsAgain rest) (sym e.1) (refl, refl)
                        | inr return ↦
                            elim (eqb_tells c 9) [
                              | inl e ↦ subst (IsAgain rest) (sym e.1) (refl, refl)
                              | inr tab ↦
                                  plain_again c rest h quote.0 backslash.0 newline.0 return.0 tab.0
                            ]
                      ]
                ]
          ]
    ]

-- ---- strings

abbrev Any : List ℕ → Type 0
Any separator = separator ≡ []

character_reads : ReadsAgain ℕ character_at (λ _ c. character_text c) is_character (codes "\"") Any
character_reads =
    record {
      again = λ separator c rest u h. ap (λ s. character_at s (character_text c ++ rest)) u ∙ (character_again c rest h).0;
      apart = λ separator c rest u h. (character_again c rest h).1;
    }

character_some : (c : ℕ) → 0 < length (character_text c)
unfolding character_text
character_some c =
    elim (eqb_tells c 34) [
      | inl e ↦ rw e.1 (lit< tt)
      | inr quote ↦
          elim (eqb_tells c 92) [
            | inl e ↦ rw e.1 (lit< tt)
            | inr backslash ↦
                elim (eqb_tells c 10) [
                  | inl e ↦ rw e.1 (lit< tt)
                  | inr newline ↦
                      elim (eqb_tells c 13) [
                        | inl e ↦ rw e.1 (lit< tt)
                        | inr return ↦
                            elim (eqb_tells c 9) [
                              | inl e ↦ rw e.1 (lit< tt)
                              | inr tab ↦
                                  rw (quote.0, backslash.0, newline.0, return.0, tab.0) (lit< tt)
                            ]
                      ]
                ]
          ]
    ]

pub string_again : (tag text rest : List ℕ) → is_text text ≡ true → quoted_at tag (tag ++ (closed text ++ rest)) ≡ Some (text, rest)
unfolding quoted_at
string_again tag text rest h =
    let written : items_text (λ _ c. character_text c) (codes "\"") [] [] text ≡ closed text = closed_is [] text in
    let long : length text + 1 ≤ length (closed text) = omega (arith, count_le (λ _ c. character_text c) (codes "\"") [] (λ _ c. character_some c) [] text, ap length written) in
    let room : length text < length (closed text ++ rest) = omega (arith, long, length-append (closed text) rest) in
    rw (tag_again tag (closed text ++ rest))
    (ap (λ s. items_at character_at (codes "\"") [] (length (closed text ++ rest)) [] (s ++ rest)) (sym written)
    ∙ items_again character_at (λ _ c. character_text c) is_character (codes "\"") [] Any character_reads refl text (length (closed text ++ rest)) [] rest refl h room)

-- ---- members and variables

-- no separator, or a comma
abbrev Separates : List ℕ → Type 0
Separates separator = (separator ≡ []) ⊎ (separator ≡ codes ",")

-- behind it stands something that is no closing bracket
abbrev IsApart : List ℕ → List ℕ → Type 0
IsApart rest separator = is_at (codes "]") (separator ++ rest) ≡ false

apart_from : (separator rest : List ℕ) → Separates separator → IsApart rest [] → IsApart rest separator
apart_from separator rest (inl e) h = subst (IsApart rest) (sym e) h
apart_from separator rest (inr e) h = subst (IsApart rest) (sym e) refl

member_again : (opening closing : List ℕ) (separator text rest : List ℕ) → is_text text ≡ true
    → member_at opening closing separator (member_text opening closing separator text ++ rest) ≡ Some (text, rest)
unfolding member_at
member_again opening closing separator text rest h =
    ap (λ s. tag_at separator s >>= λ r. quoted_at opening r >>= λ t. tag_at closing t.1 >>= λ e. Some (t.0, e)) (member_grouped separator opening (closed text) closing rest)
    ∙ rw (tag_again separator (opening ++ (closed text ++ (closing ++ rest))), string_again opening text (closing ++ rest) h, tag_again closing rest) refl

-- a tag whose first byte opens a member
abbrev Opens : List ℕ → Type 0
Opens opening = (rest : List ℕ) → IsApart (opening ++ rest) []

member_reads : (opening closing : List ℕ) → Opens opening
    → ReadsAgain (List ℕ) (member_at opening closing) (member_text opening closing) is_text (codes "]") Separates
member_reads opening closing opens =
    record {
      again = λ separator text rest u h. member_again opening closing separator text rest h;
      apart = λ separator text rest u h. ap (is_at (codes "]")) (member_grouped separator opening (closed text) closing rest) ∙ apart_from separator (opening ++ (closed text ++ (closing ++ rest))) u (opens (closed text ++ (closing ++ rest)));
    }

member_some : (opening closing separator text : List ℕ) → 0 < length (member_text opening closing separator text)
member_some opening closing separator text =
    omega (arith, length-append separator (opening ++ (closed text ++ closing)), length-append opening (closed text ++ closing), length-append (closed text) closing, length-append (flat_map character_text text) (codes "\""))

pub members_again : (tag opening closing : List ℕ) (texts : List (List ℕ)) (rest : List ℕ) → Opens opening → list_all is_text texts ≡ true
    → members_at tag opening closing (tag ++ (members_text opening closing [] texts ++ rest)) ≡ Some (texts, rest)
unfolding members_at
members_again tag opening closing texts rest opens h =
    let whole = members_text opening closing [] texts in
    let long : length texts + 1 ≤ length whole = count_le (member_text opening closing) (codes "]") (codes ",") (member_some opening closing) [] texts in
    let room : length texts < length (whole ++ rest) = omega (arith, long, length-append whole rest) in
    rw (tag_again tag (whole ++ rest))
    (items_again (member_at opening closing) (member_text opening closing) is_text (codes "]") (codes ",") Separates (member_reads opening closing opens) (inr refl) texts (length (whole ++ rest)) [] rest (inl refl) h room)

variable_again : (separator : List ℕ) (v : List ℕ × List ℕ) (rest : List ℕ) → is_variable v ≡ true
    → variable_at separator (behind separator v ++ rest) ≡ Some (v, rest)
unfolding variable_at
variable_again separator v rest h =
    let texts = both_parts (is_text v.0) (is_text v.1) h in
    ap (λ s. tag_at separator s >>= λ r. quoted_at (codes "(\"") r >>= λ k. quoted_at (codes ",\"") k.1 >>= λ x. tag_at (codes ")") x.1 >>= λ e. Some ((k.0, x.0), e))
    (variable_grouped separator (codes "(\"") (closed v.0) (codes ",\"") (closed v.1) (codes ")") rest)
    ∙ rw (
      tag_again separator (codes "(\"" ++ (closed v.0 ++ (codes ",\"" ++ (closed v.1 ++ (codes ")" ++ rest))))),
      string_again (codes "(\"") v.0 (codes ",\"" ++ (closed v.1 ++ (codes ")" ++ rest))) texts.0,
      string_again (codes ",\"") v.1 (codes ")" ++ rest) texts.1,
      tag_again (codes ")") rest,
    ) refl

variable_reads : ReadsAgain (List ℕ × List ℕ) variable_at behind is_variable (codes "]") Separates
variable_reads =
    record {
      again = λ separator v rest u h. variable_again separator v rest h;
      apart = λ separator v rest u h. ap (is_at (codes "]")) (variable_grouped separator (codes "(\"") (closed v.0) (codes ",\"") (closed v.1) (codes ")") rest)
          ∙ apart_from separator (codes "(\"" ++ (closed v.0 ++ (codes ",\"" ++ (closed v.1 ++ (codes ")" ++ rest))))) u refl;
    }

variable_some : (separator : List ℕ) (v : List ℕ × List ℕ) → 0 < length (behind separator v)
variable_some separator v = omega (arith, length-append separator (codes "(\"" ++ (closed v.0 ++ (codes ",\"" ++ (closed v.1 ++ codes ")")))))

pub variables_again : (tag : List ℕ) (vs : List (List ℕ × List ℕ)) (rest : List ℕ) → list_all is_variable vs ≡ true
    → variables_at tag (tag ++ (variables_text [] vs ++ rest)) ≡ Some (vs, rest)
unfolding variables_at
variables_again tag vs rest h =
    let whole = variables_text [] vs in
    let long : length vs + 1 ≤ length whole = count_le behind (codes "]") (codes ",") variable_some [] vs in
    let room : length vs < length (whole ++ rest) = omega (arith, long, length-append whole rest) in
    rw (tag_again tag (whole ++ rest))
    (items_again variable_at behind is_variable (codes "]") (codes ",") Separates variable_reads (inr refl) vs (length (whole ++ rest)) [] rest (inl refl) h room)

-- ---- the whole

-- a derivation's text is read as that derivation
pub derivation_again : (d : Derivation) → list_all is_text d.inputs ≡ true → list_all is_text d.sources ≡ true → has_texts d ≡ true
    → derivation_at (derivation_text d) ≡ Some d
unfolding derivation_at
derivation_again d inputs_are sources_are h =
    let one = both_parts (is_text d.platform) (is_text d.builder && (list_all is_text d.arguments && list_all is_variable d.environment)) h in
    let two = both_parts (is_text d.builder) (list_all is_text d.arguments && list_all is_variable d.environment) one.1 in
    let three = both_parts (list_all is_text d.arguments) (list_all is_variable d.environment) two.1 in
    let environment = codes ",[" ++ (variables_text [] d.environment ++ codes ")") in
    let arguments = codes ",[" ++ (members_text (codes "\"") [] [] d.arguments ++ environment) in
    let builder = codes ",\"" ++ (closed d.builder ++ arguments) in
    let platform = codes ",\"" ++ (closed d.platform ++ builder) in
    let sources = codes ",[" ++ (members_text (codes "\"") [] [] d.sources ++ platform) in
    ap derivation_at (text_is d)
    ∙ rw (
      members_again head (codes "(\"") (codes ",[\"out\"])") d.inputs sources (λ _. refl) inputs_are,
      members_again (codes ",[") (codes "\"") [] d.sources platform (λ _. refl) sources_are,
      string_again (codes ",\"") d.platform builder one.0,
      string_again (codes ",\"") d.builder arguments two.0,
      members_again (codes ",[") (codes "\"") [] d.arguments environment (λ _. refl) three.0,
      variables_again (codes ",[") d.environment (codes ")") three.1,
    ) refl
