use Rattle.std.proofs.Common.{◌≡◌, ◌++◌}
use Rattle.std.specs.Prelude.{filter}
use Rattle.outputs.specs.Reaching.{is_record_named}
use Rattle.outputs.proofs.below.push_named.Given as goal

abbrev pub invariant-loop-record : goal.invariant-loop-record
invariant-loop-record l =
    let named = filter (is_record_named l.named.keys) in
    l.records.items ++ named l.record-iterator ≡ l.initial.records.items ++ named l.fn.group
