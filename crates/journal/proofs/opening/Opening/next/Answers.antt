use Rattle.std.proofs.Common.{◌≡◌, ℕ, true, false, List, [], ◌∷◌, ◌++◌, refl, sym, ◌∙◌, ap, subst}
use Rattle.journal.specs.Rows.{row_text, rows_text}
use Rattle.journal.specs.Pieces.{rows_read}
use Rattle.journal.specs.Seals.{is_comment, seal_of, seal_row, IsBegun}
use Rattle.journal.specs.TextDigests.{HasTaken}
use Rattle.journal.proofs.HistoryLemmas.{begun_more, event_entry, rows_text-more}
use Rattle.journal.proofs.opening.Opening.next.Goals as goal

-- the text of the rows that were read, with one more
text_more : (before now : List (List ℕ)) (row taken : List ℕ) → now ≡ before ++ row ∷ [] → taken ≡ row → rows_text before ++ row_text taken ≡ rows_text now
text_more before now row taken is same = ap (λ (l : List ℕ). rows_text before ++ row_text l) same ∙ sym (rows_text-more before row) ∙ ap rows_text (sym is)

pub returns-then-not-is_comment-clause-part : goal.returns-then-not-is_comment-clause-part
returns-then-not-is_comment-clause-part g c = λ h.
    let read = rw c.in-Some.is at (c.in_ok-row.ensures.row h) in
    let opening = c.requires (c.in_ok-row.ensures.honest h) in
    let before = rows_read g.D.LogFile.seen c.args.self.now.reading in
    let now = rows_read g.D.LogFile.seen c.next_row.new.self in
    let row = c.in-Some.row.items in
    let said : is_comment row ≡ false = ap is_comment (sym c.deref.ensures.value) ∙ sym c.is_comment.ensures ∙ c.if-not-is_comment.true in
    let text = text_more before now row c.deref-then-not-is_comment.result.now read.1 c.deref-then-not-is_comment.ensures.value in
    record {
      row = row;
      part = (refl, said);
      left = read.0;
      read = read.1;
      opening = record {
        gate = read.2;
        text = subst (HasTaken c.take_row.new.self) text (c.take_row.ensures (rows_text before) opening.text);
        begun = subst (λ (rs : List (List ℕ)). IsBegun rs false) (sym read.1)
            (begun_more before row c.args.self.now.closed false opening.begun (event_entry (rows_text before) row said) (sym said));
      };
    }

pub returns-clause-part : goal.returns-clause-part
returns-clause-part g c = λ h.
    let read = rw c.in-Some.is at (c.in_ok-row.ensures.row h) in
    let opening = c.requires (c.in_ok-row.ensures.honest h) in
    let before = rows_read g.D.LogFile.seen c.args.self.now.reading in
    let now = rows_read g.D.LogFile.seen c.next_row.new.self in
    let row = c.in-Some.row.items in
    let replies = c.in-Some-2.replies in
    let seal = rw c.in-Some-2.is at c.in_ok-replies.ensures in
    let said : is_comment row ≡ true = ap is_comment (sym c.deref.ensures.value) ∙ sym c.is_comment.ensures ∙ c.if-not-is_comment.false in
    let holds : row ≡ seal_row (rows_text before) replies =
    sym c.deref-2.ensures.value ∙ seal.1 ∙ ap (λ (d : List ℕ). seal_of d replies) (c.in_ok-before.ensures (rows_text before) opening.text) in
    let text = text_more before now row c.deref-3.result.now read.1 c.deref-3.ensures.value in
    record {
      row = row;
      part = (seal.0, holds);
      left = read.0;
      read = read.1;
      opening = record {
        gate = read.2;
        text = subst (HasTaken c.take_row-2.new.self) text (c.take_row-2.ensures (rows_text before) opening.text);
        begun = subst (λ (rs : List (List ℕ)). IsBegun rs true) (sym read.1)
            (begun_more before row c.args.self.now.closed true opening.begun (λ yes. (replies, seal.0, holds)) (sym said));
      };
    }
