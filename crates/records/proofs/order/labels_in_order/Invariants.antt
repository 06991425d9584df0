use Rattle.std.proofs.Common.{◌≡◌, length}
use Rattle.model.specs.References.{labels_in_order}
use Rattle.records.specs.Ordered.{labels_at}
use Rattle.records.proofs.OrderLemmas.{put_all}
use Rattle.records.proofs.order.labels_in_order.Given as goal

abbrev pub invariant-loop-label : goal.invariant-loop-label
invariant-loop-label l = put_all l.labels.items (labels_at l.ordered.entries) ≡ labels_in_order l.fn.labels.items

abbrev pub decreases-loop-label : goal.decreases-loop-label
decreases-loop-label l = length l.labels.items
