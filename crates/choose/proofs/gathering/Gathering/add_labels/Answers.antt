use Rattle.std.proofs.Common.{◌+◌, sym, ◌∙◌, ap, drop}
use Rattle.choose.specs.Visible.{choose_in}
use Rattle.choose.specs.Gathering.{with_labels}
use Rattle.std.proofs.lemmas.List.{drop_all}
use Rattle.records.proofs.LoopLemmas.{drop_next}
use Rattle.choose.proofs.GatherLemmas.{labels_next, labels_end}
use Rattle.choose.proofs.gathering.Gathering.add_labels.Goals as goal

pub loop-label-preserved : goal.loop-label-preserved
loop-label-preserved c =
    let labels = c.args.labels.now in
    let k = c.loop-label.label-index in
    let choice = choose_in c.args.view.now c.args.pins.now in
    let step = drop_next labels k c.label-item.result c.loop-label-test.true c.label-item.is in
    ap (with_labels c.args.view.now choice (drop (k + 1) labels)) c.in_ok-add_label.ensures
    ∙ labels_next c.args.view.now choice c.label-item.result (drop (k + 1) labels) (drop k labels) c.loop-label.self step ∙ c.loop-label.invariant

pub returns : goal.returns
returns c =
    let labels = c.args.labels.now in
    let k = c.loop-label.label-index in
    sym (labels_end c.args.view.now (choose_in c.args.view.now c.args.pins.now) (drop k labels) c.loop-label.self
    (drop_all k labels c.loop-label-test.false)) ∙ c.loop-label.invariant
