use Rattle.std.proofs.Common.{sym, ◌∙◌}
use Rattle.teams.proofs.ServedLemmas.{each_left}
use Rattle.teams.proofs.sessions.all_at_once.Goals as goal

pub returns-clause-outputs : goal.returns-clause-outputs
returns-clause-outputs g c =
    each_left g.S.Store.called g.S.Store.asked g.Q.Runner.gives g.S.Meet.met g.S.Meet.stopped g.S.Meet.stops g.I.Read.remaining
    c.args.served_sessions.items c.in_ok-results.results.items c.all_left.result
    (sym c.in_ok-results.results.ok.0 ∙ c.in_ok-results.ensures.len ∙ c.args.served_sessions.ok.0)
    (λ i d inside. let made = (c.in_ok-results.ensures.each i d inside).1 in (made.job, made.job_is, made.call.met.0)) c.all_left.ensures.left
