use Rattle.std.proofs.Common.{◌≡◌, ◌++◌}
use Rattle.outputs.proofs.below.push_group.Given as goal

abbrev pub invariant-loop-record : goal.invariant-loop-record
invariant-loop-record l = l.records.items ++ l.record-iterator ≡ l.initial.records.items ++ l.fn.group
