use Rattle.std.proofs.Common.{◌≡◌, [], subst, take, arith}
use Rattle.std.proofs.lemmas.List.{take_all}
use Rattle.choose.specs.Gathering.{IsGathered}
use Rattle.choose.proofs.PlanLemmas.{sources_step}
use Rattle.choose.proofs.planning.gather_sources.Goals as goal

pub loop-path-preserved : goal.loop-path-preserved
loop-path-preserved c choice classes A own g =
    sources_step c.args.view.now choice own classes c.args.sources.now A c.loop-path.path-index c.path-item.result c.loop-path.gathering
    c.add_source.new.self c.loop-path-test.true c.path-item.is c.in_ok-add_source.ensures (c.loop-path.invariant choice classes A own g)

pub returns : goal.returns
returns c choice classes A own g =
    let sources = c.args.sources.now in
    let all : take c.loop-path.path-index sources ≡ sources = take_all c.loop-path.path-index sources (omega arith) in
    subst (λ P. IsGathered c.args.view.now choice classes sources A P [] c.loop-path.gathering) all (c.loop-path.invariant choice classes A own g)
