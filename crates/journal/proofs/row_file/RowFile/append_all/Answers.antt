use Rattle.std.proofs.Common.{◌∙◌}
use Rattle.journal.specs.Rows.{rows_in}
use Rattle.journal.specs.RowFiles.{HasFirst}
use Rattle.journal.proofs.Moments.{joins}
use Rattle.journal.proofs.Groups.{rows_next, first_more}
use Rattle.journal.proofs.row_file.RowFile.append_all.Goals as goal

pub returns-in_err-append-clause-any_moment : goal.returns-in_err-append-clause-any_moment
returns-in_err-append-clause-any_moment g c = λ h.
    let inv = c.loop-group.invariant (c.append.ensures.honest h) in
    let first = rows_in (g.D.LogFile.seen c.args.self.now.file) in
    joins g.D.LogFile.moment g.D.LogFile.left_since _ _ _ (HasFirst first c.args.groups.now) _ inv.so_far (c.append.ensures.any_moment h)
    (first_more first c.args.groups.now c.loop-group.group-index c.group-item.result _ c.loop-group-test.true c.group-item.is inv.rows)

pub loop-group-preserved : goal.loop-group-preserved
loop-group-preserved g c = λ h.
    let inv = c.loop-group.invariant (c.append.ensures.honest h) in
    let first = rows_in (g.D.LogFile.seen c.args.self.now.file) in
    let told = c.in_ok-append.ensures.told h in
    record {
      was = inv.was;
      settled = told.0;
      rows = told.1 ∙ rows_next first c.args.groups.now c.loop-group.group-index c.group-item.result _ c.loop-group-test.true c.group-item.is inv.rows;
      so_far = joins g.D.LogFile.moment g.D.LogFile.left_since _ _ _ (HasFirst first c.args.groups.now) _ inv.so_far (c.append.ensures.any_moment h)
          (first_more first c.args.groups.now c.loop-group.group-index c.group-item.result _ c.loop-group-test.true c.group-item.is inv.rows);
    }
