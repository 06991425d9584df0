use Rattle.std.proofs.Common.{◌≡◌}
use Rattle.std.specs.List.{list_any}
use Rattle.records.specs.Recorded.{same_recorded}
use Rattle.desk_records.proofs.by_class.is_among.Given as goal

abbrev pub invariant-loop-other : goal.invariant-loop-other
invariant-loop-other l = list_any (λ r. same_recorded r l.added) l.other-iterator ≡ list_any (λ r. same_recorded r l.added) l.fn.others
