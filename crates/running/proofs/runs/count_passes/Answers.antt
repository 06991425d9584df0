use Rattle.std.proofs.Common.{◌∙◌, ◌-◌, ◌^◌}
use Rattle.running.proofs.ServedSessionLemmas.{count_more}
use Rattle.running.proofs.runs.count_passes.Goals as goal

pub loop-part-preserved : goal.loop-part-preserved
loop-part-preserved g c =
    count_more (2 ^ 64 - 1) c.args.parts.now c.loop-part.part-index c.part-item.result c.len.result c.loop-part.count c.saturating_add.result
    c.saturating_add-count.result c.loop-part-test.true c.part-item.is (c.len.ensures ∙ c.part-item.result.runners.ok.0) c.loop-part.invariant
    c.saturating_add.ensures c.saturating_add-count.ensures
