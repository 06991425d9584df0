use Rattle.std.proofs.Common.{◌≡◌, drop}
use Rattle.choose.specs.Visible.{choose_in}
use Rattle.choose.specs.Gathering.{with_labels}
use Rattle.choose.proofs.gathering.Gathering.add_labels.Given as goal

abbrev pub invariant-loop-label : goal.invariant-loop-label
invariant-loop-label l =
    with_labels l.view (choose_in l.view l.pins) (drop l.label-index l.labels) l.self ≡ with_labels l.view (choose_in l.view l.pins) l.labels l.fn.self
