-- What files of rows stand for.
use Rattle.std.proofs.Common.{◌≡◌, ◌≤◌, ◌<◌, ◌⊎◌, inl, inr, ℕ, zero, suc, Bool, true, false, eqb, ◌-◌, List, [], ◌∷◌, ◌++◌, length, take, drop, Option, Some, None, option_map, refl, sym, ◌∙◌, ap, subst, arith, append_assoc, length-append}
use Rattle.std.specs.Prelude.{MatchOption}
use Rattle.std.proofs.lemmas.List.{append-nil, take_at}
use Rattle.std.proofs.lemmas.List.Concat.{flat_map-append}
use Rattle.std.proofs.lemmas.Bool.Decides.{nat_tests}
use Rattle.model.specs.Lines.{cut_at}
use Rattle.journal.specs.Rows.{IsPlain, ArePlain, rows_behind, rows_in, row_text, rows_text, at_rest, IsBeforeOrAfter}

pub is_ten : (b : ℕ) → eqb b 10 ≡ true → b ≡ 10
is_ten b is = grind (arith, nat_tests)

-- ---- a whole row

-- a row that has begun, and then the rest of it
pub row_ends : (begun row rest : List ℕ) → IsPlain row → rows_behind (Some begun) (row ++ 10 ∷ rest) ≡ (begun ++ row) ∷ rows_in rest
row_ends begun [] rest plain = ap (λ (r : List ℕ). r ∷ rows_in rest) (sym (append-nil begun))
row_ends begun (b ∷ row) rest plain =
    rw plain.0 (row_ends (begun ++ b ∷ []) row rest plain.1 ∙ ap (λ (r : List ℕ). r ∷ rows_in rest) (append_assoc begun (b ∷ []) row))

pub row-first : (row rest : List ℕ) → IsPlain row → rows_in (10 ∷ row ++ 10 ∷ rest) ≡ row ∷ rows_in rest
row-first row rest plain = row_ends [] row rest plain

-- open rows, and then whatever the rest stands for
pub rows_in-text : (rows : List (List ℕ)) (rest : List ℕ) → ArePlain rows → rows_in (rows_text rows ++ rest) ≡ rows ++ rows_in rest
rows_in-text [] rest plain = refl
rows_in-text (row ∷ rows) rest plain =
    let text : rows_text (row ∷ rows) ++ rest ≡ 10 ∷ (row ++ (10 ∷ (rows_text rows ++ rest))) =
    ap (λ (l : List ℕ). 10 ∷ l) (append_assoc (row ++ 10 ∷ []) (rows_text rows) rest ∙ append_assoc row (10 ∷ []) (rows_text rows ++ rest)) in
    ap rows_in text ∙ row-first row (rows_text rows ++ rest) plain.0 ∙ ap (λ (rs : List (List ℕ)). row ∷ rs) (rows_in-text rows rest plain.1)

pub shut : (gate : ℕ) (rest : List ℕ) → eqb gate 10 ≡ false → rows_in (gate ∷ rest) ≡ []
shut gate rest is = rw is refl

-- a gate that is shut ends them, whatever stands behind it
pub rows_in-shut : (rows : List (List ℕ)) (gate : ℕ) (rest : List ℕ) → ArePlain rows → eqb gate 10 ≡ false → rows_in (rows_text rows ++ gate ∷ rest) ≡ rows
rows_in-shut rows gate rest plain is = rows_in-text rows (gate ∷ rest) plain ∙ ap (λ (rs : List (List ℕ)). rows ++ rs) (shut gate rest is) ∙ append-nil rows

pub rows_in-rest : (rows : List (List ℕ)) → ArePlain rows → rows_in (at_rest rows) ≡ rows
rows_in-rest rows plain = rows_in-shut rows 35 [] plain refl

pub rows_text-push : (rows more : List (List ℕ)) (rest : List ℕ) → rows_text (rows ++ more) ++ rest ≡ rows_text rows ++ (rows_text more ++ rest)
rows_text-push rows more rest = ap (λ (l : List ℕ). l ++ rest) (flat_map-append row_text rows more) ∙ append_assoc (rows_text rows) (rows_text more) rest

pub at_rest-push : (rows more : List (List ℕ)) → at_rest (rows ++ more) ≡ rows_text rows ++ at_rest more
at_rest-push rows more = rows_text-push rows more (35 ∷ [])

pub plain-append : (rows more : List (List ℕ)) → ArePlain rows → ArePlain more → ArePlain (rows ++ more)
plain-append [] more plain also = also
plain-append (row ∷ rows) more plain also = (plain.0, plain-append rows more plain.1 also)

pub plain_byte : (row : List ℕ) (b : ℕ) → IsPlain row → eqb b 10 ≡ false → IsPlain (row ++ b ∷ [])
plain_byte [] b plain is = (is, tt)
plain_byte (a ∷ row) b plain is = (plain.0, plain_byte row b plain.1 is)

-- a group behind any gate counts, or it does not
pub rows_in-gate : (rows more : List (List ℕ)) (gate : ℕ) (body : List ℕ) → ArePlain rows → ArePlain more → at_rest more ≡ 10 ∷ body
    → IsBeforeOrAfter rows more (rows_text rows ++ gate ∷ body)
rows_in-gate rows more gate body plain also is = by (eqb gate 10) refl
  where
    by : (t : Bool) → eqb gate 10 ≡ t → IsBeforeOrAfter rows more (rows_text rows ++ gate ∷ body)
    by true open_gate =
        let same : gate ∷ body ≡ at_rest more = ap (λ (b : ℕ). b ∷ body) (is_ten gate open_gate) ∙ sym is in
        inr (ap (λ (l : List ℕ). rows_in (rows_text rows ++ l)) same ∙ rows_in-text rows (at_rest more) plain
        ∙ ap (λ (rs : List (List ℕ)). rows ++ rs) (rows_in-rest more also))
    by false is_shut = inl (rows_in-shut rows gate body plain is_shut)

-- ---- the parts of a file

-- a file is its rows' text, and an end that stands for nothing
pub record Parts (file : List ℕ) : Type 0 where
  pub end : List ℕ
  pub split : file ≡ rows_text (rows_in file) ++ end
  pub nothing : rows_in end ≡ []
  pub plain : ArePlain (rows_in file)

-- some bytes end a row that has begun, and then are parted so
record Ends (row bytes : List ℕ) : Type 0 where
  more : List ℕ
  after : List ℕ
  parts : Parts after
  split : bytes ≡ more ++ 10 ∷ after
  rows : rows_behind (Some row) bytes ≡ (row ++ more) ∷ rows_in after
  plain : IsPlain more

abbrev Begun : List ℕ → List ℕ → Type 0
Begun row bytes = (rows_behind (Some row) bytes ≡ []) ⊎ Ends row bytes

opened : (bytes : List ℕ) → Begun [] bytes → Parts (10 ∷ bytes)
opened bytes (inl none) = record {
  end = 10 ∷ bytes;
  split = ap (λ (rs : List (List ℕ)). rows_text rs ++ 10 ∷ bytes)
      (sym none);
  nothing = none;
  plain = subst ArePlain (sym none) tt;
}
opened bytes (inr ends) =
    let rest = ends.parts in
    let first : rows_in (10 ∷ bytes) ≡ ends.more ∷ rows_in ends.after = ends.rows in
    let text : 10 ∷ bytes ≡ rows_text (ends.more ∷ rows_in ends.after) ++ rest.end =
    ap (λ (l : List ℕ). 10 ∷ l) (ends.split ∙ ap (λ (l : List ℕ). ends.more ++ 10 ∷ l) rest.split)
    ∙ ap (λ (l : List ℕ). 10 ∷ l)
    (sym (append_assoc (ends.more ++ 10 ∷ []) (rows_text (rows_in ends.after)) rest.end
    ∙ append_assoc ends.more (10 ∷ []) (rows_text (rows_in ends.after) ++ rest.end))) in
    record {
      end = rest.end;
      split = text ∙ ap (λ (rs : List (List ℕ)). rows_text rs ++ rest.end) (sym first);
      nothing = rest.nothing;
      plain = subst ArePlain (sym first) (ends.plain, rest.plain);
    }

goes_on : (row : List ℕ) (b : ℕ) (bytes : List ℕ) → eqb b 10 ≡ false → Begun (row ++ b ∷ []) bytes → Begun row (b ∷ bytes)
goes_on row b bytes is (inl none) = inl (rw is none)
goes_on row b bytes is (inr ends) = inr (record {
  more = b ∷ ends.more;
  after = ends.after;
  parts = ends.parts;
  split = ap (λ (l : List ℕ). b ∷ l) ends.split;
  rows = rw is (ends.rows ∙ ap (λ (r : List ℕ). r ∷ rows_in ends.after) (append_assoc row (b ∷ []) ends.more));
  plain = (is, ends.plain);
})

ends_here : (row : List ℕ) (b : ℕ) (bytes : List ℕ) → eqb b 10 ≡ true → Parts bytes → Begun row (b ∷ bytes)
ends_here row b bytes is rest = inr (record {
  more = [];
  after = bytes;
  parts = rest;
  split = ap (λ (c : ℕ). c ∷ bytes) (is_ten b is);
  rows = rw is (ap (λ (r : List ℕ). r ∷ rows_in bytes) (sym (append-nil row)));
  plain = tt;
})

both : (bytes : List ℕ) → Parts bytes × ((row : List ℕ) → Begun row bytes)
both [] = (record { end = []; split = refl; nothing = refl; plain = tt }, λ row. inl refl)
both (b ∷ bytes) = by (eqb b 10) refl (both bytes)
  where
    by : (t : Bool) → eqb b 10 ≡ t → Parts bytes × ((row : List ℕ) → Begun row bytes) → Parts (b ∷ bytes) × ((row : List ℕ) → Begun row (b ∷ bytes))
    by true is rest = (subst (λ (c : ℕ). Parts (c ∷ bytes)) (sym (is_ten b is)) (opened bytes (rest.1 [])), λ row. ends_here row b bytes is rest.0)
    by false is rest =
        let none : rows_in (b ∷ bytes) ≡ [] = shut b bytes is in (
          record {
            end = b ∷ bytes;
            split = ap (λ (rs : List (List ℕ)). rows_text rs ++ b ∷ bytes) (sym none);
            nothing = none;
            plain = subst ArePlain
                (sym none) tt;
          },
          λ row. goes_on row b bytes is (rest.1 (row ++ b ∷ [])),
        )

pub parts : (file : List ℕ) → Parts file
parts file = (both file).0

-- ---- by a cut

front_gate : (b n : ℕ) (end : List ℕ) (t : Bool) → eqb b 10 ≡ t → (rows_behind (Some []) end ≡ [] → rows_behind (Some []) (take n end) ≡ [])
    → rows_behind None (b ∷ end) ≡ [] → rows_behind None (b ∷ take n end) ≡ []
front_gate b n end true is later none = rw is (later (rw is at none))
front_gate b n end false is later none = rw is refl

front_row : (row : List ℕ) (b n : ℕ) (end : List ℕ) (t : Bool) → eqb b 10 ≡ t
    → (rows_behind (Some (row ++ b ∷ [])) end ≡ [] → rows_behind (Some (row ++ b ∷ [])) (take n end) ≡ [])
    → rows_behind (Some row) (b ∷ end) ≡ [] → rows_behind (Some row) (b ∷ take n end) ≡ []
front_row row b n end true is later none = let gives = rw is at none in absurd (cc gives)
front_row row b n end false is later none = rw is (later (rw is at none))

pub front_behind : (n : ℕ) (begun : Option (List ℕ)) (end : List ℕ) → rows_behind begun end ≡ [] → rows_behind begun (take n end) ≡ []
front_behind zero begun end none = refl
front_behind (suc n) begun [] none = refl
front_behind (suc n) None (b ∷ end) none = front_gate b n end (eqb b 10) refl (front_behind n (Some []) end) none
front_behind (suc n) (Some row) (b ∷ end) none = front_row row b n end (eqb b 10) refl (front_behind n (Some (row ++ b ∷ [])) end) none

-- nothing stands in the front of an end that stands for nothing
pub front_nothing : (n : ℕ) (end : List ℕ) → rows_in end ≡ [] → rows_in (take n end) ≡ []
front_nothing n end none = front_behind n None end none

-- one byte is no row
pub short_nothing : (end : List ℕ) → length end ≤ 1 → rows_in end ≡ []
short_nothing [] short = refl
short_nothing (b ∷ []) short = by (eqb b 10) refl
  where
    by : (t : Bool) → eqb b 10 ≡ t → rows_in (b ∷ []) ≡ []
    by true is = rw is refl
    by false is = rw is refl
short_nothing (a ∷ b ∷ end) short = absurd (omega arith)

-- ---- what is cut at a newline

-- what is left has no newline either
none_later : (b : ℕ) (o : Option (List ℕ × List ℕ)) → option_map {U = List ℕ × List ℕ} (λ (r : List ℕ × List ℕ). (b ∷ r.0, r.1)) o ≡ None → o ≡ None
none_later b None is = refl
none_later b (Some r) is = absurd (cc is)

none_behind : (row : List ℕ) (b : ℕ) (s : List ℕ) (t : Bool) → eqb b 10 ≡ t → (cut_at 10 s ≡ None → rows_behind (Some (row ++ b ∷ [])) s ≡ [])
    → cut_at 10 (b ∷ s) ≡ None → rows_behind (Some row) (b ∷ s) ≡ []
none_behind row b s true is later none = let gives = rw is at none in absurd (cc gives)
none_behind row b s false is later none = rw is (later (none_later b (cut_at 10 s) (rw is at none)))

pub behind-none : (row s : List ℕ) → cut_at 10 s ≡ None → rows_behind (Some row) s ≡ []
behind-none row [] none = refl
behind-none row (b ∷ s) none = none_behind row b s (eqb b 10) refl (behind-none (row ++ b ∷ []) s) none

-- where it is cut it is a plain text, a newline, and the rest
pub record CutParts (s a r : List ℕ) : Type 0 where
  pub split : s ≡ a ++ 10 ∷ r
  pub plain : IsPlain a

cut_here : (b : ℕ) (s : List ℕ) (p : List ℕ × List ℕ) → eqb b 10 ≡ true → ◌≡◌ {A = Option (List ℕ × List ℕ)} (Some ([], s)) (Some p) → CutParts (b ∷ s) p.0 p.1
cut_here b s p is gives =
    let same : ◌≡◌ {A = List ℕ × List ℕ} ([], s) p = cc gives in
    let front : [] ≡ p.0 = ap (λ (q : List ℕ × List ℕ). q.0) same in
    let back : s ≡ p.1 = ap (λ (q : List ℕ × List ℕ). q.1) same in
    record {
      split = ap (λ (c : ℕ). c ∷ s) (is_ten b is) ∙ ap (λ (l : List ℕ). 10 ∷ l) back ∙ ap (λ (l : List ℕ). l ++ 10 ∷ p.1) front;
      plain = subst IsPlain front tt;
    }

cut_later : (b : ℕ) (s : List ℕ) (p : List ℕ × List ℕ) → eqb b 10 ≡ false → (o : Option (List ℕ × List ℕ))
    → ((q : List ℕ × List ℕ) → o ≡ Some q → CutParts s q.0 q.1)
    → option_map {U = List ℕ × List ℕ} (λ (q : List ℕ × List ℕ). (b ∷ q.0, q.1)) o ≡ Some p → CutParts (b ∷ s) p.0 p.1
cut_later b s p is None later gives = absurd (cc gives)
cut_later b s p is (Some q) later gives =
    let found = later q refl in
    let same : ◌≡◌ {A = List ℕ × List ℕ} (b ∷ q.0, q.1) p = cc gives in
    let front : b ∷ q.0 ≡ p.0 = ap (λ (r : List ℕ × List ℕ). r.0) same in
    let back : q.1 ≡ p.1 = ap (λ (r : List ℕ × List ℕ). r.1) same in
    record {
      split = ap (λ (l : List ℕ). b ∷ l) found.split ∙ ap (λ (l : List ℕ). l ++ 10 ∷ q.1) front ∙ ap (λ (l : List ℕ). p.0 ++ 10 ∷ l) back;
      plain = subst IsPlain front (is, found.plain);
    }

cut_by : (b : ℕ) (s : List ℕ) (p : List ℕ × List ℕ) (t : Bool) → eqb b 10 ≡ t → ((q : List ℕ × List ℕ) → cut_at 10 s ≡ Some q → CutParts s q.0 q.1)
    → cut_at 10 (b ∷ s) ≡ Some p → CutParts (b ∷ s) p.0 p.1
cut_by b s p true is later cut = cut_here b s p is (rw is at cut)
cut_by b s p false is later cut = cut_later b s p is (cut_at 10 s) later (rw is at cut)

pub cut_parts : (s : List ℕ) (p : List ℕ × List ℕ) → cut_at 10 s ≡ Some p → CutParts s p.0 p.1
cut_parts [] p cut = absurd (cc cut)
cut_parts (b ∷ s) p cut = cut_by b s p (eqb b 10) refl (λ q found. cut_parts s q found) cut

-- the first row of some bytes that begin with an open gate, by what is cut at a newline
pub first_row_is : {B : Type 0} (now : B → List ℕ) (rest : List ℕ) (o : Option (B × B))
    → MatchOption o (cut_at 10 rest ≡ None) (λ r. cut_at 10 rest ≡ Some (now r.0, now r.1))
    → MatchOption o (rows_in (10 ∷ rest) ≡ []) (λ r. (10 ∷ rest ≡ 10 ∷ now r.0 ++ 10 ∷ now r.1) × (rows_in (10 ∷ rest) ≡ now r.0 ∷ rows_in (now r.1)))
first_row_is now rest None none = behind-none [] rest none
first_row_is now rest (Some r) cut =
    let found = cut_parts rest (now r.0, now r.1) cut in
    let split : 10 ∷ rest ≡ 10 ∷ now r.0 ++ 10 ∷ now r.1 = ap (λ (l : List ℕ). 10 ∷ l) found.split in
    (split, ap rows_in split ∙ row-first (now r.0) (now r.1) found.plain)

-- the text of some rows begins with an open gate, and that of none is a closed one
pub rest_begins : (rows : List (List ℕ)) → 2 ≤ length (at_rest rows) → at_rest rows ≡ 10 ∷ drop 1 (at_rest rows)
rest_begins [] long = absurd (omega (arith, long))
rest_begins (row ∷ rows) long = refl

pub rest_of_none : (rows : List (List ℕ)) → length (at_rest rows) < 2 → rows ≡ []
rest_of_none [] short = refl
rest_of_none (row ∷ rows) short =
    absurd (omega (
      arith,
      short,
      length-append (row_text row ++ rows_text rows) (35 ∷ []),
      length-append (row_text row)
          (rows_text rows),
      length-append row (10 ∷ []),
    ))

-- rows with one more, from their text without its last byte
pub rest_more : (bytes row front last : List ℕ) (n : ℕ) → n ≡ length bytes → bytes ≡ at_rest (rows_in bytes) → front ≡ take (n - 1) bytes
    → last ≡ ((front ++ 10 ∷ []) ++ row) ++ 10 ∷ 35 ∷ []
    → last ≡ at_rest (rows_in bytes ++ row ∷ [])
rest_more bytes row front last n counts rest cut is =
    let rows = rows_in bytes in
    let size : n - 1 ≡ length (rows_text rows) = omega (arith, counts, ap length rest, length-append (rows_text rows) (35 ∷ [])) in
    let text : front ≡ rows_text rows = cut ∙ ap (λ (l : List ℕ). take (n - 1) l) rest ∙ take_at (rows_text rows) (35 ∷ []) (n - 1) (sym size) in
    let parts_of : ((front ++ 10 ∷ []) ++ row) ++ 10 ∷ 35 ∷ [] ≡ front ++ at_rest (row ∷ []) =
    ap (λ (l : List ℕ). l ++ 10 ∷ 35 ∷ []) (append_assoc front (10 ∷ []) row) ∙ append_assoc front (10 ∷ row) (10 ∷ 35 ∷ [])
    ∙ ap (λ (l : List ℕ). front ++ (10 ∷ l)) (sym (ap (λ (l : List ℕ). l ++ 35 ∷ []) (append-nil (row ++ 10 ∷ [])) ∙ append_assoc row (10 ∷ []) (35 ∷ []))) in
    is ∙ parts_of ∙ ap (λ (l : List ℕ). l ++ at_rest (row ∷ [])) text ∙ sym (at_rest-push rows (row ∷ []))

-- these are the rows that it has
pub rest_rows : (bytes row last : List ℕ) → IsPlain row → last ≡ at_rest (rows_in bytes ++ row ∷ []) → rows_in last ≡ rows_in bytes ++ row ∷ []
rest_rows bytes row last plain is =
    ap rows_in is ∙ rows_in-rest (rows_in bytes ++ row ∷ []) (plain-append (rows_in bytes) (row ∷ []) (parts bytes).plain (plain, tt))

plain_by : (b : ℕ) (s : List ℕ) (t : Bool) → eqb b 10 ≡ t → (cut_at 10 s ≡ None → IsPlain s) → cut_at 10 (b ∷ s) ≡ None → IsPlain (b ∷ s)
plain_by b s true is later none = let gives = rw is at none in absurd (cc gives)
plain_by b s false is later none = (is, later (none_later b (cut_at 10 s) (rw is at none)))

-- what cannot be cut at a newline has none
pub plain-none : (s : List ℕ) → cut_at 10 s ≡ None → IsPlain s
plain-none [] none = tt
plain-none (b ∷ s) none = plain_by b s (eqb b 10) refl (plain-none s) none

none_by : (b : ℕ) (s : List ℕ) (t : Bool) → eqb b 10 ≡ t → t ≡ false → cut_at 10 s ≡ None → cut_at 10 (b ∷ s) ≡ None
none_by b s true is closed none = absurd (cc closed)
none_by b s false is closed none = rw is (ap (option_map {U = List ℕ × List ℕ} (λ (r : List ℕ × List ℕ). (b ∷ r.0, r.1))) none)

-- what has no newline cannot be cut at one
pub none-plain : (s : List ℕ) → IsPlain s → cut_at 10 s ≡ None
none-plain [] plain = refl
none-plain (b ∷ s) plain = none_by b s (eqb b 10) refl plain.0 (none-plain s plain.1)
