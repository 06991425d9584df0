use Rattle.std.proofs.Common.{◌≡◌, map, take}
use Rattle.records.specs.Ordered.{record_label}
use Rattle.outputs.proofs.candidates.record_labels.Given as goal

abbrev pub invariant-loop-record : goal.invariant-loop-record
invariant-loop-record l = l.labels.items ≡ map record_label (take l.record-index l.records)
