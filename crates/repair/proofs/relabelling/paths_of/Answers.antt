use Rattle.std.proofs.Common.{[], ◌∷◌, ◌++◌, ap, ◌∙◌, arith}
use Rattle.std.proofs.lemmas.List.{take_all}
use Rattle.model.specs.Worlds.{Label}
use Rattle.model.specs.References.{paths_of_labels}
use Rattle.rewrite.proofs.StepLemmas.{mapped_next}
use Rattle.repair.proofs.relabelling.paths_of.Goals as goal

pub loop-label-preserved : goal.loop-label-preserved
loop-label-preserved c =
    mapped_next (λ (l : Label). l.path) [] c.args.labels.now c.loop-label.label-index c.label-item.result c.loop-label.paths.items c.push.new.self.items
    c.loop-label-test.true c.label-item.is c.loop-label.invariant
    (c.in_ok-push.ensures.items ∙ ap (λ p. c.loop-label.paths.items ++ p ∷ []) (c.in_ok-clone.ensures.cases ∙ c.path.ensures))

pub returns : goal.returns
returns c = c.loop-label.invariant ∙ ap paths_of_labels (take_all c.loop-label.label-index c.args.labels.now (omega arith))
