use Rattle.std.proofs.Common.{◌≡◌, ℕ, Bool, true, false, not, List, [], ◌∷◌, ◌++◌, length, take, drop, sym, ◌∙◌, ap, subst, take-append-drop}
use Rattle.std.specs.Prelude.{codes, bytes_eq}
use Rattle.std.proofs.lemmas.List.{append-nil}
use Rattle.std.proofs.lemmas.Slice.Eq.{bytes_eq-Decides}
use Rattle.journal.specs.Rows.{rows_in, row_text, rows_text}
use Rattle.journal.specs.Seals.{header_row, IsBegun}
use Rattle.journal.specs.TextDigests.{HasTaken}
use Rattle.journal.specs.Pieces.{rows_left, rows_read}
use Rattle.journal.proofs.PieceLemmas.{not_false}
use Rattle.journal.proofs.HistoryLemmas.{history_begins}
use Rattle.journal.proofs.opening.Opening.header.Goals as goal

-- the first row, by what is left where nothing was read
first_left : (file : List ℕ) (end : ℕ) (row : List ℕ) (more : List (List ℕ)) → end ≡ 0 → rows_in (drop end file) ≡ row ∷ more → rows_in file ≡ row ∷ more
first_left file end row more is left = ap (λ (n : ℕ). rows_in (drop n file)) (sym is) ∙ left

none_read : (file : List ℕ) (end : ℕ) → end ≡ 0 → rows_in (take end file) ≡ []
none_read file end is = ap (λ (n : ℕ). rows_in (take n file)) is

-- a text behind a mark
stripped : (text mark rest : List ℕ) → bytes_eq (take (length mark) text) mark ≡ true → rest ≡ drop (length mark) text → text ≡ mark ++ rest
stripped text mark rest same is =
    sym (take-append-drop (length mark) text)
    ∙ ap (λ (l : List ℕ). l ++ drop (length mark) text) ((bytes_eq-Decides (take (length mark) text) mark).0 same) ∙ ap (λ (l : List ℕ). mark ++ l) (sym is)

other_settings : (given settings : List ℕ) (differ : Bool) → differ ≡ not (bytes_eq given settings) → differ ≡ true → given ≡ settings → ⊥
other_settings given settings differ is told same =
    let equal = (bytes_eq-Decides given settings).1 same in
    let wrong = sym told ∙ is ∙ ap not equal in
    absurd (cc wrong)

same_settings : (given settings : List ℕ) (differ : Bool) → differ ≡ not (bytes_eq given settings) → differ ≡ false → given ≡ settings
same_settings given settings differ is told = (bytes_eq-Decides given settings).0 (not_false (bytes_eq given settings) (sym is ∙ told))

pub returns-then-ne-clause-refused : goal.returns-then-ne-clause-refused
returns-then-ne-clause-refused g c = λ h.
    let read = rw c.in-Some.is at (c.in_ok-row.ensures.row h) in
    let start = c.requires (c.in_ok-row.ensures.honest h) in
    let old = c.args.self.now.reading in
    let file = g.D.LogFile.seen old.pieces.file in
    let given = c.in-Some-strip_prefix.given.now in
    let cases = c.in-Some-strip_prefix.ensures.cases in
    let is : c.in-Some.row.items ≡ header_row given = sym c.deref.ensures.value
    ∙ stripped c.deref.result.now (codes "#intstore history 1 ") given cases.0 cases.1 in
    let later = rows_left g.D.LogFile.seen c.next_row.new.self in (
      given,
      later,
      first_left file old.end c.in-Some.row.items later start.begin read.0 ∙ ap (λ (r : List ℕ). r ∷ later) is,
      other_settings given c.args.settings.now c.ne.result c.ne.ensures c.if-ne.true,
    )

pub returns-clause-opened : goal.returns-clause-opened
returns-clause-opened g c = λ h.
    let read = rw c.in-Some.is at (c.in_ok-row.ensures.row h) in
    let start = c.requires (c.in_ok-row.ensures.honest h) in
    let old = c.args.self.now.reading in
    let file = g.D.LogFile.seen old.pieces.file in
    let given = c.in-Some-strip_prefix.given.now in
    let settings = c.args.settings.now in
    let header = header_row settings in
    let cases = c.in-Some-strip_prefix.ensures.cases in
    let is : c.in-Some.row.items ≡ header =
    sym c.deref.ensures.value ∙ stripped c.deref.result.now (codes "#intstore history 1 ") given cases.0 cases.1
    ∙ ap header_row (same_settings given settings c.ne.result c.ne.ensures c.if-ne.false) in
    let now : rows_read g.D.LogFile.seen c.next_row.new.self ≡ header ∷ [] =
    read.1 ∙ ap (λ (rs : List (List ℕ)). rs ++ c.in-Some.row.items ∷ []) (none_read file old.end start.begin) ∙ ap (λ (r : List ℕ). r ∷ []) is in
    let text : row_text c.deref-2.result.now ≡ rows_text (rows_read g.D.LogFile.seen c.next_row.new.self) =
    ap row_text (c.deref-2.ensures.value ∙ is) ∙ sym (append-nil (row_text header)) ∙ sym (ap rows_text now) in (
      record {
        gate = read.2;
        text = subst (HasTaken c.take_row.new.self) text (c.take_row.ensures [] start.text);
        begun = subst (λ (rs : List (List ℕ)). IsBegun rs true) (sym now) (history_begins settings);
      },
      now,
    )
