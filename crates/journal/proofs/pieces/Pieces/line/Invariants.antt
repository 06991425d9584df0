use Rattle.std.proofs.Common.{◌≡◌, ◌+◌, ◌-◌, ◌^◌, ◌≤◌, ◌++◌, length, option_map}
use Rattle.model.specs.Lines.{cut_at}
use Rattle.journal.specs.LogFile.{IsOnlyRead}
use Rattle.journal.specs.Pieces.{rest_of, IsAhead}
use Rattle.journal.proofs.pieces.Pieces.line.Given as goal

-- what was taken is the beginning of the line
abbrev pub invariant-loop-line : goal.invariant-loop-line
invariant-loop-line g l = record {
  honest : g.D.LogFile.is_honest l.self.file → g.D.LogFile.is_honest l.initial.self.file;
  ahead : g.D.LogFile.is_honest l.self.file → IsAhead g.D.LogFile.seen l.self;
  cut : g.D.LogFile.is_honest l.self.file
      → cut_at 10 (rest_of g.D.LogFile.seen l.initial.self) ≡ option_map (λ r. (l.line.items ++ r.0, r.1)) (cut_at 10 (rest_of g.D.LogFile.seen l.self));
  place : l.self.window.place ≡ l.initial.self.window.place + length l.line.items;
  file : IsOnlyRead g.D.LogFile.seen g.D.LogFile.may_leave g.D.LogFile.moment g.D.LogFile.left_since l.initial.self.file l.self.file;
  later : g.D.LogFile.faults l.initial.self.file ≤ g.D.LogFile.faults l.self.file;
}

abbrev pub decreases-loop-line : goal.decreases-loop-line
decreases-loop-line g l = 2 ^ 64 - l.self.window.place
