-- The whole lines of an input, as more of it comes.
use Rattle.std.proofs.Common.{◌≡◌, ℕ, false, List, [], ◌∷◌, ◌++◌, refl, sym, ap, ◌∙◌, subst, append_assoc}
use Rattle.model.specs.declared.mode.Mode.{Mode}
use Rattle.model.specs.Lines.{lines_of}
use Rattle.model.specs.Talk.{LineRow, Seen, fresh, Gets, GetsNext, seen_after, after_all, Talks, parsed_of}
use Rattle.session.specs.Serving.{WholeLines, HasNoNewline, IsHeld}
use Rattle.session.proofs.LineLemmas.{lines-newline, HasNoNewline-append, parsed_of-held}
use Rattle.session.proofs.RowLemmas.{talks-more, after_all-more}

-- those of an input with no byte
abbrev pub no_lines : {mode : Mode} → WholeLines mode [] []
no_lines = record {
  done = [];
  partial = [];
  cut = λ more. refl;
  begun = tt;
  talks = tt;
  going = refl;
}

module _ {mode : Mode} {input : List ℕ} {rows : List LineRow} (l : WholeLines mode input rows) where
  -- the line begun goes on
  abbrev pub line-grown : (bytes : List ℕ) → HasNoNewline bytes → WholeLines mode (input ++ bytes) rows
  line-grown bytes w = record {
    done = l.done;
    partial = l.partial ++ bytes;
    cut = λ more. ap lines_of (append_assoc input bytes more) ∙ l.cut (bytes ++ more)
        ∙ ap (λ t. l.done ++ lines_of t) (sym (append_assoc l.partial bytes more));
    begun = HasNoNewline-append l.partial bytes l.begun w;
    talks = l.talks;
    going = l.going;
  }

  -- a newline ends it
  pub ended-cut : (more : List ℕ) → lines_of (input ++ 10 ∷ more) ≡ (l.done ++ l.partial ∷ []) ++ lines_of more
  ended-cut more = l.cut (10 ∷ more) ∙ ap (λ t. l.done ++ t) (lines-newline l.partial more l.begun) ∙ sym (append_assoc l.done (l.partial ∷ []) (lines_of more))

  -- what is held of it reads as it does
  pub held-gets : (seen : Seen) (held : List ℕ) (row : LineRow) → IsHeld l.partial held → seen ≡ after_all (fresh mode) rows → GetsNext seen held row
      → GetsNext (after_all (fresh mode) rows) l.partial row
  held-gets seen held row held_is seen_is g =
      let all : Seen = after_all (fresh mode) rows in
      let e : parsed_of seen held ≡ parsed_of all l.partial = rw (held_is, seen_is) (parsed_of-held all l.partial) in
      subst (λ f. Gets all.goals f row) e (subst (λ (s : Seen). Gets s.goals (parsed_of seen held) row) seen_is g)

  -- the rows with its row
  pub ended-talks : (row : LineRow) → GetsNext (after_all (fresh mode) rows) l.partial row → Talks (fresh mode) (l.done ++ l.partial ∷ []) (rows ++ row ∷ [])
  ended-talks row g = talks-more (fresh mode) l.done rows l.partial row l.talks l.going g

  abbrev pub line-ended : (row : LineRow) → GetsNext (after_all (fresh mode) rows) l.partial row → (after_all (fresh mode) (rows ++ row ∷ [])).refused ≡ false
      → WholeLines mode (input ++ 10 ∷ []) (rows ++ row ∷ [])
  line-ended row g f = record {
    done = l.done ++ l.partial ∷ [];
    partial = [];
    cut = λ more. ap lines_of (append_assoc input (10 ∷ []) more) ∙ ended-cut more;
    begun = tt;
    talks = ended-talks row g;
    going = f;
  }

-- what is kept with one more row
pub seen-more : (mode : Mode) (rows : List LineRow) (seen next : Seen) (row : LineRow) → seen ≡ after_all (fresh mode) rows → next ≡ seen_after seen row
    → next ≡ after_all (fresh mode) (rows ++ row ∷ [])
seen-more mode rows seen next row e s = s ∙ ap (λ x. seen_after x row) e ∙ sym (after_all-more (fresh mode) rows row)

-- whether users were refused, by what is kept
pub refused-same : (mode : Mode) (rows : List LineRow) (seen : Seen) → seen ≡ after_all (fresh mode) rows → (after_all (fresh mode) rows).refused ≡ seen.refused
refused-same mode rows seen e = ap (λ (s : Seen). s.refused) (sym e)
