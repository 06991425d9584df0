use Rattle.std.proofs.Common.{◌≡◌, ◌++◌, drop}
use Rattle.std.specs.Prelude.{filter, bytes_eq}
use Rattle.std.specs.List.{list_any}
use Rattle.records.proofs.order.labels_among.Given as goal

abbrev pub invariant-loop-label : goal.invariant-loop-label
invariant-loop-label l =
    l.chosen.items ++ filter (λ l'. list_any (bytes_eq l'.path) l.set.keys) (drop l.label-index l.labels)
    ≡ filter (λ l'. list_any (bytes_eq l'.path) l.set.keys) l.labels
