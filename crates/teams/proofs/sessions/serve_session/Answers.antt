use Rattle.std.proofs.Common.{rules, refl, sym, ◌∙◌}
use Rattle.teams.proofs.WorkerLemmas.{new_clean, round_clean}
use Rattle.teams.proofs.ServedLemmas.{left_output, idle_output}
use Rattle.teams.proofs.sessions.serve_session.Goals as goal

pub returns-in-Ok-clause-output : goal.returns-in-Ok-clause-output
returns-in-Ok-clause-output g c =
    let laws = g.met.S.Meet g.world.𝓛 g.world.𝓜 g.world.𝓡 ((λ s x. x), (λ x. x), (λ x. x), λ x. x) in
    let ws = c.args.session.workers.items in
    left_output g.S.Store.called g.S.Store.asked g.Q.Runner.gives g.S.Meet.met g.S.Meet.stopped g.S.Meet.stops g.I.Read.remaining
    c.args.session c.in-Ok.end c.left_by.result c.left_by.ensures.left c.in-Ok.ensures.round
    (λ tickets told round was untold.
    round_clean g.S.Store.called g.S.Store.asked g.Q.Runner.gives g.S.Meet.met g.S.Meet.stops laws.met_asking laws.stops_met laws.stops_called
    g.S.Meet.is_new laws.stops_new tickets ws c.in-Ok.end.workers.items c.in-Ok.end.is_whole c.in-Ok.end.has_met_memory told round c.requires was untold)

pub returns-in-Err-clause-output : goal.returns-in-Err-clause-output
returns-in-Err-clause-output g c =
    let laws = g.met.S.Meet g.world.𝓛 g.world.𝓜 g.world.𝓡 ((λ s x. x), (λ x. x), (λ x. x), λ x. x) in
    let ws = c.args.session.workers.items in
    idle_output g.S.Store.called g.S.Store.asked g.Q.Runner.gives g.S.Meet.met g.S.Meet.stopped g.S.Meet.stops g.I.Read.remaining
    c.args.session _ (search rules) refl (search rules) c.nothing_served.ensures.0 c.nothing_served.ensures.1
    (new_clean g.S.Meet.is_new g.S.Meet.stops laws.stops_new ws c.requires)
