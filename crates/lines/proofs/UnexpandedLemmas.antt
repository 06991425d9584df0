-- Texts that expansions leave as they are.
use Rattle.std.proofs.Common.{◌≡◌, ℕ, ◌-◌, Bool, true, false, not, ◌||◌, List, [], ◌∷◌, ◌++◌, length, drop, Option, Some, None, option_map, refl, sym, ◌∙◌, ap, subst, arith}
use Rattle.std.specs.Prelude.{◌==◌, flat_map}
use Rattle.std.specs.List.{list_all, list_any}
use Rattle.std.proofs.lemmas.Bool.Decides.{nat_tests}
use Rattle.std.proofs.lemmas.List.{append-nil}
use Rattle.std.proofs.lemmas.Bool.{and_parts}
use Rattle.model.specs.Lines.{LineResult, onto_first, split, cut_at, is_numeral, named_line, is_letter, expansion_of, expansion_in, expanded, expanded_piece, joined_texts, pieces_text, text_from_pieces, filled}
use Rattle.lines.specs.Writing.{names_line, is_expansion, has_expansion}

-- ---- no expansion, however many lines there are

no_line : (count : ℕ) (digits : List ℕ) → is_numeral digits ≡ false → named_line count digits ≡ None
no_line count digits is = rw is refl

none_of : (count letter : ℕ) (o : Option (List ℕ × List ℕ)) → names_line o ≡ false → expansion_of count letter o ≡ None
none_of count letter None is = refl
none_of count letter (Some r) is = ap (option_map (λ line. record { letter = letter; line = line; rest = r.1 })) (no_line count r.0 is)

none_in : (count : ℕ) (piece : List ℕ) → is_expansion piece ≡ false → expansion_in count piece ≡ None
none_in count [] is = refl
none_in count (letter ∷ text) is = by (is_letter letter) refl
  where
    by : (t : Bool) → is_letter letter ≡ t → expansion_in count (letter ∷ text) ≡ None
    by true e = rw e (none_of count letter (cut_at 125 text) (rw e at is))
    by false e = rw e refl

-- ---- parts between braces

abbrev with_braces : List (List ℕ) → List ℕ
with_braces pieces = flat_map (λ piece. 123 ∷ piece) pieces

neither : (a b : Bool) → (a || b) ≡ false → (a ≡ false) × (b ≡ false)
neither true b is = absurd (cc is)
neither false b is = (refl, is)

pieces_same : (told : List LineResult) (pieces : List (List ℕ)) → list_any is_expansion pieces ≡ false → pieces_text told pieces ≡ Some (with_braces pieces)
pieces_same told [] are = refl
pieces_same told (piece ∷ pieces) are =
    let both = neither (is_expansion piece) (list_any is_expansion pieces) are in
    let first : expanded_piece told piece ≡ Some (123 ∷ piece) = ap (expanded told piece) (none_in (length told) piece both.0) in
    rw (first, pieces_same told pieces both.1) refl

record Pieces (s : List ℕ) : Type 0 where
  first : List ℕ
  rest : List (List ℕ)
  are : split 123 s ≡ first ∷ rest
  text : s ≡ first ++ with_braces rest

pieces_of : (s : List ℕ) → Pieces s
pieces_of [] = record { first = []; rest = []; are = refl; text = refl }
pieces_of (b ∷ s) = by (b == 123) refl (pieces_of s)
  where
    by : (t : Bool) → (b == 123) ≡ t → Pieces s → Pieces (b ∷ s)
    by true is p =
        let same : b ≡ 123 = grind (arith, nat_tests, is) in
        record {
          first = [];
          rest = p.first ∷ p.rest;
          are = rw is (ap (λ (ps : List (List ℕ)). [] ∷ ps) p.are);
          text = ap (λ (c : ℕ). c ∷ s) same ∙ ap (λ (l : List ℕ). 123 ∷ l) p.text;
        }
    by false is p = record {
      first = b ∷ p.first;
      rest = p.rest;
      are = rw is (ap (onto_first b) p.are);
      text = ap (λ (l : List ℕ). b ∷ l) p.text;
    }

-- a text with no expansion is the same once expansions are made
pub filled_same : (told : List LineResult) (s : List ℕ) → has_expansion s ≡ false → filled told s ≡ Some s
filled_same told s none =
    let p = pieces_of s in
    let are : list_any is_expansion p.rest ≡ false = subst (λ (ps : List (List ℕ)). list_any is_expansion (drop 1 ps) ≡ false) p.are none in
    ap (text_from_pieces told) p.are ∙ ap (joined_texts (Some p.first)) (pieces_same told p.rest are) ∙ ap (λ (l : List ℕ). Some l) (sym p.text)

-- ---- texts without braces, and behind them

abbrev pub no_braces : List ℕ → Bool
no_braces = list_all (λ b. not (b == 123))

onto_keeps : (b : ℕ) (ps : List (List ℕ)) → (ps ≡ [] → ⊥) → drop 1 (onto_first b ps) ≡ drop 1 ps
onto_keeps b [] some = absurd (some refl)
onto_keeps b (p ∷ ps) some = refl

some_parts : (s : List ℕ) → split 123 s ≡ [] → ⊥
some_parts s none = let p = pieces_of s in absurd (cc (none, p.are))

no_brace : (b : ℕ) → not (b == 123) ≡ true → (b == 123) ≡ false
no_brace b is = grind (arith, nat_tests)

-- what stands in front and has no brace changes nothing
split_front : (front s : List ℕ) → no_braces front ≡ true → drop 1 (split 123 (front ++ s)) ≡ drop 1 (split 123 s)
split_front [] s none = refl
split_front (b ∷ front) s none =
    let parts = and_parts (not (b == 123)) (no_braces front) none in
    rw (no_brace b parts.0) (onto_keeps b (split 123 (front ++ s)) (some_parts (front ++ s)) ∙ split_front front s parts.1)

-- a text behind one without braces
pub behind_plain : (front s : List ℕ) → no_braces front ≡ true → has_expansion s ≡ false → has_expansion (front ++ s) ≡ false
behind_plain front s none is = ap (list_any is_expansion) (split_front front s none) ∙ is

-- a text without braces
pub plain : (s : List ℕ) → no_braces s ≡ true → has_expansion s ≡ false
plain s none = ap has_expansion (sym (append-nil s)) ∙ behind_plain s [] none refl
