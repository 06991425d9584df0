use Rattle.std.proofs.Common.{[], ◌∷◌, ◌++◌, ap, ◌∙◌}
use Rattle.model.specs.Worlds.{OfSource}
use Rattle.rewrite.proofs.StepLemmas.{mapped_next}
use Rattle.repair.proofs.entries.push_sources.Goals as goal

pub loop-source-preserved : goal.loop-source-preserved
loop-source-preserved c =
    mapped_next OfSource c.args.entries.now.items c.args.sources.now c.loop-source.source-index c.source-item.result c.loop-source.entries.items
    c.push.new.self.items c.loop-source-test.true c.source-item.is c.loop-source.invariant
    (c.in_ok-push.ensures.items ∙ ap (λ e. c.loop-source.entries.items ++ e ∷ []) (c.of_source.ensures ∙ ap OfSource c.in_ok-clone.ensures.cases))
