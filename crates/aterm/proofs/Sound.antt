-- What was read is what is written: the text from which a part was read begins with that part's text.
use Rattle.std.proofs.Common.{◌≡◌, ℕ, zero, suc, true, false, inl, inr, take-append-drop, List, [], ◌∷◌, ◌++◌, length, take, drop, codes, eqb-true, refl, ap, sym, ◌∙◌, append_assoc, arith}
use Rattle.std.specs.Prelude.{Option, Some, None, ◌==◌}
use Rattle.std.specs.Cmp.Lexicographic.{same_text}
use Rattle.std.proofs.lemmas.Bool.Decides.{nat_tests}
use Rattle.model.specs.Derivations.{character_text}
use Rattle.aterm.proofs.Texts.{items_text, closed, closed_is, member_text, members_text, behind, variables_text, member_grouped, variable_grouped}
use Rattle.model.specs.Results.{◌>>=◌}
use Rattle.model.specs.DerivationTexts.{ItemReader, is_at, tag_at, with_item_first, items_at, escaped_at, plain_at, character_at, quoted_at, member_at, members_at, variable_at, variables_at}
use Rattle.model.proofs.ReadingLemmas.{if_true, if_either, some_same}

-- ---- steps

-- a step that gave something had something from the step before
pub bind_some : {A B : Type 0} (read : Option A) (more : A → Option B) (y : B) → (read >>= more) ≡ Some y → (x : A) × (read ≡ Some x) × (more x ≡ Some y)
bind_some None more y h = cc
bind_some (Some x) more y h = (x, refl, h)

-- two things that were read are two
pub some_both : {A B : Type 0} (x : A) (y : B) (z : A × B) → Some (x, y) ≡ Some z → (x ≡ z.0) × (y ≡ z.1)
some_both x y z h = (ap (λ p. p.0) (some_same (x, y) z h), ap (λ p. p.1) (some_same (x, y) z h))

tag_here : (tag bytes rest : List ℕ) → is_at tag bytes ≡ true → drop (length tag) bytes ≡ rest → bytes ≡ tag ++ rest
tag_here tag bytes rest here behind =
    let front : take (length tag) bytes ≡ tag = same_text (take (length tag) bytes) tag (sym here) in
    sym (take-append-drop (length tag) bytes) ∙ ap (λ s. s ++ drop (length tag) bytes) front ∙ ap (λ s. tag ++ s) behind

pub tag_sound : (tag bytes rest : List ℕ) → tag_at tag bytes ≡ Some rest → bytes ≡ tag ++ rest
unfolding tag_at
tag_sound tag bytes rest h =
    let here = if_true (is_at tag bytes) (Some (drop (length tag) bytes)) rest h in
    tag_here tag bytes rest here.0 (some_same (drop (length tag) bytes) rest here.1)

-- ---- items

-- what an item is read from is its text
abbrev pub ReadsAs : {X : Type 0} → ItemReader X → (List ℕ → X → List ℕ) → Type 0
ReadsAs {X} item text = (separator bytes rest : List ℕ) (x : X) → item separator bytes ≡ Some (x, rest) → bytes ≡ text separator x ++ rest

pub items_sound : {X : Type 0} (item : ItemReader X) (text : List ℕ → X → List ℕ) (closing next : List ℕ) → ReadsAs item text
    → (n : ℕ) (separator bytes rest : List ℕ) (xs : List X) → items_at item closing next n separator bytes ≡ Some (xs, rest)
    → bytes ≡ items_text text closing next separator xs ++ rest
unfolding items_at
items_sound item text closing next each zero separator bytes rest xs h = cc
items_sound item text closing next each (suc n) separator bytes rest xs h =
    elim (if_either (is_at closing bytes) (Some ([], drop (length closing) bytes)) (item separator bytes >>= λ x. with_item_first x.0 (items_at item closing next n next x.1)) (xs, rest) h) [
      | inl e ↦
          let both = some_both [] (drop (length closing) bytes) (xs, rest) e.1 in
          tag_here closing bytes rest e.0 both.1 ∙ ap (λ ys. items_text text closing next separator ys ++ rest) both.0
      | inr e ↦
          let one = bind_some (item separator bytes) (λ x. with_item_first x.0 (items_at item closing next n next x.1)) (xs, rest) e.1 in
          let others = bind_some (items_at item closing next n next one.0.1) (λ ys. Some (one.0.0 ∷ ys.0, ys.1)) (xs, rest) one.2 in
          let both = some_both (one.0.0 ∷ others.0.0) others.0.1 (xs, rest) others.2 in
          let more = items_sound item text closing next each n next one.0.1 others.0.1 others.0.0 others.1 in
          each separator bytes one.0.1 one.0.0 one.1 ∙ ap (λ s. text separator one.0.0 ++ s) more ∙ sym (append_assoc (text separator one.0.0) (items_text text closing next next others.0.0) others.0.1)
          ∙ ap (λ ys. items_text text closing next separator ys ++ others.0.1) both.0 ∙ ap (λ s. items_text text closing next separator xs ++ s) both.1
    ]

-- ---- strings

escaped_sound : (bytes rest : List ℕ) (c : ℕ) → escaped_at bytes ≡ Some (c, rest) → 92 ∷ bytes ≡ character_text c ++ rest
unfolding escaped_at character_text
escaped_sound [] rest c h = cc
escaped_sound (letter ∷ bytes) rest c h = grind (arith, nat_tests)

plain_sound : (b : ℕ) (bytes rest : List ℕ) (c : ℕ) → (b == 92) ≡ false → plain_at b bytes ≡ Some (c, rest) → b ∷ bytes ≡ character_text c ++ rest
unfolding character_text
plain_sound b bytes rest c n h = grind (arith, nat_tests)

character_sound : ReadsAs character_at (λ separator c. character_text c)
unfolding character_at character_text
character_sound separator [] rest c h = cc
character_sound separator (b ∷ bytes) rest c h =
    elim (if_either (b == 92) (escaped_at bytes) (plain_at b bytes) (c, rest) h) [
      | inl e ↦ ap (λ x. x ∷ bytes) (eqb-true b 92 e.0) ∙ escaped_sound bytes rest c e.1
      | inr e ↦ plain_sound b bytes rest c e.0 e.1
    ]

pub string_sound : (tag bytes rest text : List ℕ) → quoted_at tag bytes ≡ Some (text, rest) → bytes ≡ tag ++ (closed text ++ rest)
unfolding quoted_at
string_sound tag bytes rest text h =
    let start = bind_some (tag_at tag bytes) (λ r. items_at character_at (codes "\"") [] (length r) [] r) (text, rest) h in
    let sound = items_sound character_at (λ _ c. character_text c) (codes "\"") [] character_sound (length start.0) [] start.0 rest text start.2 in
    tag_sound tag bytes start.0 start.1 ∙ ap (λ s. tag ++ s) (sound ∙ ap (λ s. s ++ rest) (closed_is [] text))

-- ---- members and variables

member_sound : (opening closing : List ℕ) → ReadsAs (member_at opening closing) (member_text opening closing)
unfolding member_at
member_sound opening closing separator bytes rest text h =
    let start = bind_some (tag_at separator bytes) (λ r. quoted_at opening r >>= λ t. tag_at closing t.1 >>= λ e. Some (t.0, e)) (text, rest) h in
    let inner = bind_some (quoted_at opening start.0) (λ t. tag_at closing t.1 >>= λ e. Some (t.0, e)) (text, rest) start.2 in
    let end = bind_some (tag_at closing inner.0.1) (λ e. Some (inner.0.0, e)) (text, rest) inner.2 in
    let both = some_both inner.0.0 end.0 (text, rest) end.2 in
    let string = string_sound opening start.0 inner.0.1 inner.0.0 inner.1 in
    tag_sound separator bytes start.0 start.1 ∙ ap (λ s. separator ++ s) (string ∙ ap (λ s. opening ++ (closed inner.0.0 ++ s)) (tag_sound closing inner.0.1 end.0 end.1))
    ∙ sym (member_grouped separator opening (closed inner.0.0) closing end.0) ∙ ap (λ t. member_text opening closing separator t ++ end.0) both.0 ∙ ap (λ s. member_text opening closing separator text ++ s) both.1

pub members_sound : (tag opening closing bytes rest : List ℕ) (texts : List (List ℕ)) → members_at tag opening closing bytes ≡ Some (texts, rest)
    → bytes ≡ tag ++ (members_text opening closing [] texts ++ rest)
unfolding members_at
members_sound tag opening closing bytes rest texts h =
    let start = bind_some (tag_at tag bytes) (λ r. items_at (member_at opening closing) (codes "]") (codes ",") (length r) [] r) (texts, rest) h in
    let sound = items_sound (member_at opening closing) (member_text opening closing) (codes "]") (codes ",") (member_sound opening closing) (length start.0) [] start.0 rest texts start.2 in
    tag_sound tag bytes start.0 start.1 ∙ ap (λ s. tag ++ s) sound

variable_sound : ReadsAs variable_at behind
unfolding variable_at
variable_sound separator bytes rest v h =
    let start = bind_some (tag_at separator bytes) (λ r. quoted_at (codes "(\"") r >>= λ k. quoted_at (codes ",\"") k.1 >>= λ x. tag_at (codes ")") x.1 >>= λ e. Some ((k.0, x.0), e)) (v, rest) h in
    let key = bind_some (quoted_at (codes "(\"") start.0) (λ k. quoted_at (codes ",\"") k.1 >>= λ x. tag_at (codes ")") x.1 >>= λ e. Some ((k.0, x.0), e)) (v, rest) start.2 in
    let value = bind_some (quoted_at (codes ",\"") key.0.1) (λ x. tag_at (codes ")") x.1 >>= λ e. Some ((key.0.0, x.0), e)) (v, rest) key.2 in
    let end = bind_some (tag_at (codes ")") value.0.1) (λ e. Some ((key.0.0, value.0.0), e)) (v, rest) value.2 in
    let both = some_both (key.0.0, value.0.0) end.0 (v, rest) end.2 in
    let first = string_sound (codes "(\"") start.0 key.0.1 key.0.0 key.1 in
    let second = string_sound (codes ",\"") key.0.1 value.0.1 value.0.0 value.1 in
    tag_sound separator bytes start.0 start.1
    ∙ ap (λ s. separator ++ s) (first ∙ ap (λ s. codes "(\"" ++ (closed key.0.0 ++ s)) (second ∙ ap (λ s. codes ",\"" ++ (closed value.0.0 ++ s)) (tag_sound (codes ")") value.0.1 end.0 end.1)))
    ∙ sym (variable_grouped separator (codes "(\"") (closed key.0.0) (codes ",\"") (closed value.0.0) (codes ")") end.0)
    ∙ ap (λ w. behind separator w ++ end.0) both.0 ∙ ap (λ s. behind separator v ++ s) both.1

pub variables_sound : (tag bytes rest : List ℕ) (vs : List (List ℕ × List ℕ)) → variables_at tag bytes ≡ Some (vs, rest)
    → bytes ≡ tag ++ (variables_text [] vs ++ rest)
unfolding variables_at
variables_sound tag bytes rest vs h =
    let start = bind_some (tag_at tag bytes) (λ r. items_at variable_at (codes "]") (codes ",") (length r) [] r) (vs, rest) h in
    let sound = items_sound variable_at behind (codes "]") (codes ",") variable_sound (length start.0) [] start.0 rest vs start.2 in
    tag_sound tag bytes start.0 start.1 ∙ ap (λ s. tag ++ s) sound
