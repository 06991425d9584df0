use Rattle.std.proofs.Common.{◌∷◌, [], ◌++◌, ap, ◌∙◌}
use Rattle.model.specs.Resolutions.{Served}
use Rattle.rewrite.proofs.StepLemmas.{mapped_next}
use Rattle.resolving.proofs.sources.push_served.Goals as goal

pub loop-one-preserved : goal.loop-one-preserved
loop-one-preserved c =
    mapped_next (λ (s : Served). s.path) c.args.paths.now.items c.args.served.now c.loop-one.one-index c.one-item.result c.loop-one.paths.items
    c.push.new.self.items c.loop-one-test.true c.one-item.is c.loop-one.invariant
    (c.in_ok-push.ensures.items ∙ ap (λ p. c.loop-one.paths.items ++ p ∷ []) (c.in_ok-clone.ensures.cases ∙ c.path.ensures))
