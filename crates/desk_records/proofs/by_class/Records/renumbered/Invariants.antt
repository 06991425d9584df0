use Rattle.std.proofs.Common.{◌≡◌, ◌++◌}
use Rattle.desk_records.proofs.by_class.Records.renumbered.Given as goal

abbrev pub invariant-loop-record : goal.invariant-loop-record
invariant-loop-record l = l.anew ++ l.record-iterator ≡ l.self
