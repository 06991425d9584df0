use Rattle.std.proofs.Common.{◌≡◌}
use Rattle.desk_records.specs.RecordLists.{is_recorded_at}
use Rattle.desk_records.specs.Numbers.{number_of}
use Rattle.desk_records.proofs.group.number_in.Given as goal

abbrev pub invariant-loop-number : goal.invariant-loop-number
invariant-loop-number l = number_of (is_recorded_at l.class l.path) l.number-iterator ≡ number_of (is_recorded_at l.class l.path) l.map.entries
