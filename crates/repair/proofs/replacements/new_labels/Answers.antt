use Rattle.std.proofs.Common.{[], ◌∷◌, ◌++◌, ap, ◌∙◌}
use Rattle.model.specs.Repairs.{new_label}
use Rattle.rewrite.proofs.StepLemmas.{mapped_next}
use Rattle.repair.proofs.replacements.new_labels.Goals as goal

pub loop-one-preserved : goal.loop-one-preserved
loop-one-preserved c =
    mapped_next new_label [] c.args.replacements.now c.loop-one.one-index c.one-item.result c.loop-one.labels.items c.push.new.self.items
    c.loop-one-test.true c.one-item.is c.loop-one.invariant
    (c.in_ok-push.ensures.items ∙ ap (λ l. c.loop-one.labels.items ++ l ∷ []) c.in_ok-new_label.ensures)
