use Rattle.std.proofs.Common.{◌∙◌, ◌∷◌, [], append_assoc, refl}
use Rattle.std.proofs.lemmas.Result.{err_from_is_err_and}
use Rattle.model.specs.Talk.{label_text}
use Rattle.lines.proofs.EntryLemmas.{added_next, added_all}
use Rattle.lines.proofs.entries.add_more_labels.Goals as goal

pub loop-label-init : goal.loop-label-init
loop-label-init c = refl

pub loop-label-preserved : goal.loop-label-preserved
loop-label-preserved c =
    added_next (λ k. 44 ∷ label_text k) c.args.labels.now c.loop-label.label-index c.label-item.result c.loop-label.text.items c.add_label.new.text.items
    _ c.loop-label-test.true c.label-item.is
    (c.in_ok-add_label.ensures ∙ append_assoc c.loop-label.text.items (44 ∷ []) (label_text c.label-item.result)) c.loop-label.invariant

pub returns-in_err-add_label : goal.returns-in_err-add_label
returns-in_err-add_label c =
    let p = err_from_is_err_and c.from_residual.result c.from_residual.ensures.1 in
    rw p.1 tt

pub returns : goal.returns
returns c =
    added_all (λ k. 44 ∷ label_text k) c.args.labels.now c.loop-label.label-index c.loop-label.text.items _ c.loop-label-test.false c.loop-label.invariant
