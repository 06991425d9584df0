use Rattle.std.proofs.Common.{◌≡◌, drop}
use Rattle.std.specs.List.{list_any}
use Rattle.records.specs.Recorded.{same_recorded}
use Rattle.records.proofs.record.Record.is_among.Given as goal

abbrev pub invariant-loop-other : goal.invariant-loop-other
invariant-loop-other l = list_any (λ r. same_recorded r l.self) (drop l.other-index l.others) ≡ list_any (λ r. same_recorded r l.self) l.others
