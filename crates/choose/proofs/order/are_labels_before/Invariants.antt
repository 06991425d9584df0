use Rattle.std.proofs.Common.{◌≡◌, ◌≤◌, ◌-◌, drop, length}
use Rattle.model.specs.Orders.{list_before}
use Rattle.model.specs.Choices.{label_before}
use Rattle.choose.proofs.order.are_labels_before.Given as goal

abbrev pub invariant-loop-index : goal.invariant-loop-index
invariant-loop-index l = record {
  in_one : l.index ≤ length l.one;
  in_other : l.index ≤ length l.other;
  rest : list_before label_before (drop l.index l.one) (drop l.index l.other) ≡ list_before label_before l.one l.other;
}

abbrev pub decreases-loop-index : goal.decreases-loop-index
decreases-loop-index l = length l.one - l.index
