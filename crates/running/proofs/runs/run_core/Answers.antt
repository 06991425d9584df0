use Rattle.std.proofs.Common.{◌∙◌, subst, length}
use Rattle.running.specs.ServedSessions.{session_passes}
use Rattle.running.specs.Runs.{AreServed}
use Rattle.running.proofs.ServedSessionLemmas.{new_first, if_results}
use Rattle.running.proofs.runs.run_core.Goals as goal

pub serve_front-requires-after_bounds : goal.serve_front-requires-after_bounds
serve_front-requires-after_bounds g c κs within = (new_first c.in_ok-front.passes.items c.args.start.count c.in_ok-front.ensures.passes).1

pub returns-clause-results : goal.returns-clause-results
returns-clause-results g c =
    let long = (new_first c.in_ok-front.passes.items c.args.start.count c.in_ok-front.ensures.passes).0 ∙ c.requires.needed in
    if_results g.J.FrontId.setup g.Q.Runner.gives g.I.Read.remaining c.args.parts.items c.args.start.count
    c.in_ok-ended.ended.sessions.items c.in_ok-ended.ended.back.workers.items c.in_ok-ended.ended.back.passes.items c.in_ok-ended.ended.back.outputs
    c.requires.needed
    (subst (λ n. AreServed g.J.FrontId.setup g.Q.Runner.gives g.I.Read.remaining (session_passes n c.args.parts.items) c.args.parts.items
    c.in_ok-ended.ended.sessions.items c.in_ok-ended.ended.back.workers.items c.in_ok-ended.ended.back.passes.items
    c.in_ok-ended.ended.back.outputs.items) long c.in_ok-ended.ensures.served)
    c.close_front.result c.close_front.ensures.closed
