use Rattle.std.proofs.Common.{◌≡◌, List, ℕ, length, sym, ◌∙◌, ap, subst}
use Rattle.std.specs.Prelude.{Result, Ok, Err, OnOk}
use Rattle.journal.specs.Rows.{rows_in, rows_text, at_rest}
use Rattle.journal.specs.Pieces.{rows_read}
use Rattle.journal.specs.Seals.{IsHistory}
use Rattle.journal.specs.TextDigests.{HasTaken}
use Rattle.journal.proofs.RowLemmas.{parts, rows_in-rest}
use Rattle.journal.proofs.Repair.{all_read, end_is}
use Rattle.journal.proofs.opening.Opening.shut.Goals as goal

OnOk_both : {T E : Type 0} {P Q R : Type 0} (r : Result T E) → OnOk r P → OnOk r Q → (P → Q → R) → OnOk r R
OnOk_both (Ok t) p q then = then p q
OnOk_both (Err e) p q then = p

pub returns-clause-shut : goal.returns-clause-shut
returns-clause-shut g c = OnOk_both c.shut.result c.shut.ensures.at_rest c.shut.ensures.durable (λ rest durable h.
    let all = c.requires (c.shut.ensures.honest h) in
    let old = c.args.self.now.reading in
    let file = g.D.LogFile.seen old.pieces.file in
    let new = g.D.LogFile.seen c.shut.new.self.pieces.file in
    let now : rows_in new ≡ rows_in file = ap rows_in (rest h) ∙ rows_in-rest (rows_in file) (parts file).plain in
    let read : rows_in new ≡ rows_read g.D.LogFile.seen old = now ∙ all_read file old.end all.has_read.front all.none in (
      record {
        file = rest h ∙ ap at_rest (sym now);
        end = c.shut.ensures.end ∙ end_is file old.end all.has_read.front all.has_read.within all.none
            ∙ ap (λ (rs : List (List ℕ)). length (rows_text rs)) (sym now);
        durable = durable h;
        text = subst (λ (rs : List (List ℕ)). HasTaken c.args.self.now.text (rows_text rs)) (sym read) all.text;
        history = subst IsHistory (sym read) all.history;
      },
      now,
    ))
