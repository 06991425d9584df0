use Rattle.std.proofs.Common.{◌≡◌, [], ◌∷◌, ◌∙◌, subst}
use Rattle.std.specs.Prelude.{Result, Ok, Err, OnOk}
use Rattle.journal.specs.LogFile.{Holds, Torn, Cut}
use Rattle.journal.specs.Rows.{rows_in}
use Rattle.journal.proofs.Moments.{weaker, joins}
use Rattle.journal.proofs.Repair.{end_is, cut_keeps, cut_done, torn_end, written_end}
use Rattle.journal.proofs.reading.Reading.shut.Goals as goal

OnOk_by : {T E : Type 0} {P Q : Type 0} (r : Result T E) → OnOk r P → (P → Q) → OnOk r Q
OnOk_by (Ok t) p then = then p
OnOk_by (Err e) p then = p

pub returns-in_err-cut_synced-clause-any_moment : goal.returns-in_err-cut_synced-clause-any_moment
returns-in_err-cut_synced-clause-any_moment g c = λ h1.
    let h0 = c.cut_synced.ensures.honest h1 in
    let old = c.args.self.now.pieces.file in
    let file = g.D.LogFile.seen old in
    let at = c.args.self.now.end in
    let read = c.requires.read h0 in
    let ends = end_is file at read.front read.within (c.requires.all h0) in
    weaker g.D.LogFile.moment g.D.LogFile.left_since old c.cut_synced.new.file (Cut at file) (λ f. rows_in f ≡ rows_in file) (cut_keeps file at ends)
    (c.cut_synced.ensures.any_moment h1)

pub returns-clause-any_moment : goal.returns-clause-any_moment
returns-clause-any_moment g c = λ h2.
    let h1 = c.write_synced.ensures.honest h2 in
    let h0 = c.cut_synced.ensures.honest h1 in
    let old = c.args.self.now.pieces.file in
    let mid = c.cut_synced.new.file in
    let file = g.D.LogFile.seen old in
    let at = c.args.self.now.end in
    let read = c.requires.read h0 in
    let ends = end_is file at read.front read.within (c.requires.all h0) in
    let is_cut = c.in_ok-cut_synced.ensures.cut h1 ∙ cut_done file at ends in
    let cut = weaker g.D.LogFile.moment g.D.LogFile.left_since old mid (Cut at file) (λ f. rows_in f ≡ rows_in file) (cut_keeps file at ends)
    (c.cut_synced.ensures.any_moment h1) in
    joins g.D.LogFile.moment g.D.LogFile.left_since old mid c.write_synced.new.file (λ f. rows_in f ≡ rows_in file)
    (Torn at 1 (g.D.LogFile.seen mid)) cut (c.write_synced.ensures.any_moment h2)
    (λ f torn. torn_end file at ends f (subst (λ d. Torn at 1 d f) is_cut torn))

pub returns-clause-at_rest : goal.returns-clause-at_rest
returns-clause-at_rest g c = OnOk_by c.write_synced.result c.write_synced.ensures.written (λ written h2.
    let h1 = c.write_synced.ensures.honest h2 in
    let h0 = c.cut_synced.ensures.honest h1 in
    let file = g.D.LogFile.seen c.args.self.now.pieces.file in
    let at = c.args.self.now.end in
    let read = c.requires.read h0 in
    let ends = end_is file at read.front read.within (c.requires.all h0) in
    let is_cut = c.in_ok-cut_synced.ensures.cut h1 ∙ cut_done file at ends in
    written_end file at ends _ (subst (λ d. Holds d at (35 ∷ []) (g.D.LogFile.seen c.write_synced.new.file)) is_cut (written h2)))
