use Rattle.std.proofs.Common.{◌≡◌, ◌++◌, ℕ, List, sym, ◌∙◌, ap, subst}
use Rattle.std.specs.Prelude.{Result, Ok, Err, OnOk}
use Rattle.journal.specs.LogFile.{LeavesOnly}
use Rattle.journal.specs.Rows.{IsPlain, rows_in, rows_text, IsBeforeOrAfter}
use Rattle.journal.specs.Seals.{sealed, IsHistory}
use Rattle.journal.specs.TextDigests.{HasTaken}
use Rattle.journal.proofs.SealLemmas.{plain-seal}
use Rattle.journal.proofs.HistoryLemmas.{history_grows, sealed_is, text_is}
use Rattle.journal.proofs.journal.Journal.append.Goals as goal

OnOk_by : {T E : Type 0} {P Q : Type 0} (r : Result T E) → OnOk r P → (P → Q) → OnOk r Q
OnOk_by (Ok t) p then = then p
OnOk_by (Err e) p then = p

pub and-requires : goal.and-requires
and-requires g c = subst IsPlain (sym (c.deref-2.ensures.value ∙ c.in_ok-seal.ensures.row)) (plain-seal c.in_ok-before.before c.args.replies.now)

pub returns-clause-any_moment : goal.returns-clause-any_moment
returns-clause-any_moment g c = λ h.
    let j = c.requires (c.append.ensures.honest h) in
    let old = c.args.self.now.rows.file in
    let before = rows_in (g.D.LogFile.seen old) in
    let more = rows_in c.args.group.rows.bytes.items in
    let added = rows_in c.in_ok-rows.rows.bytes.items in
    let taken = c.take.ensures (rows_text before) j.text in
    let is : added ≡ sealed before more c.args.replies.now =
    sealed_is before more added c.text.result.now c.in_ok-before.before c.in_ok-seal.seal.items c.deref-2.result.now
    c.args.replies.now c.text.ensures c.deref-2.ensures.value c.in_ok-rows.ensures
    (c.in_ok-before.ensures _ taken) c.in_ok-seal.ensures.row in
    subst (λ (rs : List (List ℕ)). LeavesOnly g.D.LogFile.moment g.D.LogFile.left_since old c.append.new.self.file (IsBeforeOrAfter before rs)) is
    (c.append.ensures.any_moment h)

pub returns-clause-told : goal.returns-clause-told
returns-clause-told g c = OnOk_by c.append.result c.append.ensures.told (λ told h.
    let j = c.requires (c.append.ensures.honest h) in
    let before = rows_in (g.D.LogFile.seen c.args.self.now.rows.file) in
    let more = rows_in c.args.group.rows.bytes.items in
    let added = rows_in c.in_ok-rows.rows.bytes.items in
    let piece = c.text.result.now in
    let seal = c.in_ok-seal.seal.items in
    let row = c.deref-2.result.now in
    let replies = c.args.replies.now in
    let taken = c.take.ensures (rows_text before) j.text in
    let is : added ≡ sealed before more replies =
    sealed_is before more added piece c.in_ok-before.before seal row replies c.text.ensures c.deref-2.ensures.value c.in_ok-rows.ensures
    (c.in_ok-before.ensures _ taken) c.in_ok-seal.ensures.row in
    let now : rows_in (g.D.LogFile.seen c.append.new.self.file) ≡ before ++ sealed before more replies = (told h).1
    ∙ ap (λ (rs : List (List ℕ)). before ++ rs) is in
    let text = text_is before more added piece c.in_ok-before.before c.deref.result.now row replies c.text.ensures (c.deref-2.ensures.value
    ∙ sym c.deref.ensures.value) c.in_ok-rows.ensures in (
      record {
        rows = (told h).0;
        text = subst (HasTaken c.take_row.new.self) (text ∙ ap (λ (rs : List (List ℕ)). rows_text (before ++ rs)) is ∙ ap rows_text (sym now))
            (c.take_row.ensures _ taken);
        history = subst IsHistory (sym now) (history_grows before more replies j.history c.args.group.events c.seal_of.ensures.digest);
      },
      now,
    ))
