use Rattle.std.proofs.Common.{◌≡◌, ◌++◌}
use Rattle.records.specs.Ordered.{labels_at}
use Rattle.records.proofs.order.labels_at.Given as goal

abbrev pub invariant-loop-path : goal.invariant-loop-path
invariant-loop-path l = l.labels.items ++ labels_at l.path-iterator ≡ labels_at l.fn.ordered.entries
