use Rattle.std.proofs.Common.{◌≡◌, ◌++◌, take}
use Rattle.journal.specs.LogFile.{LeavesOnly}
use Rattle.journal.specs.RowFiles.{IsSettled, rows_of, HasFirst}
use Rattle.journal.specs.Rows.{rows_in}
use Rattle.journal.proofs.row_file.RowFile.append_all.Given as goal

-- the groups so far are on the disk
abbrev pub invariant-loop-group : goal.invariant-loop-group
invariant-loop-group g l = g.D.LogFile.is_honest l.self.file → record {
  was : g.D.LogFile.is_honest l.initial.self.file;
  settled : IsSettled g.D.LogFile.seen g.D.LogFile.may_leave l.self;
  rows : rows_in (g.D.LogFile.seen l.self.file) ≡ rows_in (g.D.LogFile.seen l.initial.self.file) ++ rows_of (take l.group-index l.groups);
  so_far : LeavesOnly g.D.LogFile.moment g.D.LogFile.left_since l.initial.self.file l.self.file
      (HasFirst (rows_in (g.D.LogFile.seen l.initial.self.file)) l.groups);
}
