-- Looking for the users of a session.
use Rattle.std.proofs.Common.{◌≡◌, inl, inr, ℕ, ◌+◌, ◌<◌, true, List, [], ◌∷◌, ◌++◌, length, Option, None, refl, sym, ap, ◌∙◌, arith, length-take}
use Rattle.std.proofs.lemmas.List.{append-nil}
use Rattle.model.specs.declared.mode.Mode.{Mode}
use Rattle.model.specs.Lines.{lines_of}
use Rattle.model.specs.Limits.{longest_line}
use Rattle.model.specs.Talk.{LineRow, Silent, Names, Refuses, Asks, Waits, Seen, fresh, GetsNext, seen_after, after_all, users_in}
use Rattle.session.specs.Serving.{HasNoNewline, HoldsMore}
use Rattle.session.specs.Ahead.{Searched, LooksAhead}
use Rattle.session.proofs.LineLemmas.{nothing-held, lines-last}
use Rattle.session.proofs.WholeLinesLemmas.{no_lines, line-grown, ended-cut, held-gets, ended-talks, line-ended, seen-more, refused-same}

-- the users that more rows name
pub users_in-more : (rows : List LineRow) (row : LineRow) → users_in rows ≡ None → users_in (rows ++ row ∷ []) ≡ users_in (row ∷ [])
users_in-more [] row e = refl
users_in-more (Silent ∷ rows) row e = users_in-more rows row e
users_in-more (Names users ∷ rows) row e = cc
users_in-more (Refuses why ∷ rows) row e = users_in-more rows row e
users_in-more (Asks event reply ∷ rows) row e = users_in-more rows row e
users_in-more (Waits goals reply ∷ rows) row e = users_in-more rows row e

pub searched-none : {mode : Mode} → Searched mode [] (fresh mode) []
searched-none = record {
  so_far = record { rows = []; lines = no_lines; none = refl };
  held_is = refl;
  seen_is = refl;
}

pub searched-held : {mode : Mode} (input : List ℕ) (seen : Seen) (held bytes held' : List ℕ) → Searched mode input seen held → HasNoNewline bytes
    → HoldsMore held bytes held' → Searched mode (input ++ bytes) seen held'
searched-held {mode} input seen held bytes held' p w h = record {
  so_far = record { rows = p.so_far.rows; lines = line-grown p.so_far.lines bytes w; none = p.so_far.none };
  held_is = h p.so_far.lines.partial p.held_is;
  seen_is = p.seen_is;
}

pub searched-line : {mode : Mode} (input : List ℕ) (seen next : Seen) (held : List ℕ) (row : LineRow) → Searched mode input seen held → GetsNext seen held row
    → next ≡ seen_after seen row → users_in (row ∷ []) ≡ None → next.refused ≡ seen.refused → Searched mode (input ++ 10 ∷ []) next []
searched-line {mode} input seen next held row p g s n f =
    let rows = p.so_far.rows in
    let l = p.so_far.lines in
    let seen_is : next ≡ after_all (fresh mode) (rows ++ row ∷ []) = seen-more mode rows seen next row p.seen_is s in
    record {
      so_far = record {
        rows = rows ++ row ∷ [];
        lines = line-ended l row (held-gets l seen held row p.held_is p.seen_is g)
            (refused-same mode (rows ++ row ∷ []) next seen_is ∙ f ∙ sym (refused-same mode rows seen p.seen_is) ∙ l.going);
        none = users_in-more rows row p.so_far.none ∙ n;
      };
      held_is = refl;
      seen_is = seen_is;
    }

-- the line that is held ends the search
pub found-line : {mode : Mode} (input : List ℕ) (seen : Seen) (held : List ℕ) (row : LineRow) (users : Option (List (List ℕ))) (more : List ℕ)
    → Searched mode input seen held → GetsNext seen held row → users_in (row ∷ []) ≡ users → (users ≡ None → (seen_after seen row).refused ≡ true)
    → LooksAhead mode (input ++ 10 ∷ more) users
found-line {mode} input seen held row users more p g n f =
    let rows = p.so_far.rows in
    let l = p.so_far.lines in
    record {
      rows = rows ++ row ∷ [];
      done = l.done ++ l.partial ∷ [];
      rest = lines_of more;
      cut = ended-cut l more;
      talks = ended-talks l row (held-gets l seen held row p.held_is p.seen_is g);
      named = users_in-more rows row p.so_far.none ∙ n;
      ends = λ e. inr (refused-same mode (rows ++ row ∷ []) (seen_after seen row) (seen-more mode rows seen (seen_after seen row) row p.seen_is refl) ∙ f e);
    }

-- the input ends with nothing held
pub found-none : {mode : Mode} (input : List ℕ) (seen : Seen) → Searched mode input seen [] → LooksAhead mode input None
found-none {mode} input seen p =
    let l = p.so_far.lines in
    let none : l.partial ≡ [] = nothing-held longest_line l.partial p.held_is in
    record {
      rows = p.so_far.rows;
      done = l.done;
      rest = [];
      cut = ap lines_of (sym (append-nil input)) ∙ l.cut [] ∙ ap (λ t. l.done ++ lines_of (t ++ [])) none;
      talks = l.talks;
      named = p.so_far.none;
      ends = λ e. inl refl;
    }

last_line : (partial : List ℕ) → HasNoNewline partial → 0 < length partial → lines_of (partial ++ []) ≡ partial ∷ []
last_line [] w h = absurd (omega arith)
last_line (b ∷ partial) w h = ap lines_of (append-nil (b ∷ partial)) ∙ lines-last b partial w

-- or with a last line
pub found-last : {mode : Mode} (input : List ℕ) (seen : Seen) (held : List ℕ) (row : LineRow) (users : Option (List (List ℕ))) → 0 < length held
    → Searched mode input seen held → GetsNext seen held row → users_in (row ∷ []) ≡ users → LooksAhead mode input users
found-last {mode} input seen held row users h p g n =
    let l = p.so_far.lines in
    let some : 0 < length l.partial = omega (arith, ap length p.held_is, length-take (longest_line + 1) l.partial) in
    record {
      rows = p.so_far.rows ++ row ∷ [];
      done = l.done ++ l.partial ∷ [];
      rest = [];
      cut = ap lines_of (sym (append-nil input)) ∙ l.cut [] ∙ ap (λ t. l.done ++ t) (last_line l.partial l.begun some) ∙ sym (append-nil _);
      talks = ended-talks l row (held-gets l seen held row p.held_is p.seen_is g);
      named = users_in-more p.so_far.rows row p.so_far.none ∙ n;
      ends = λ e. inl refl;
    }
