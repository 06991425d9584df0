use Rattle.std.proofs.Common.{◌∙◌, ap, List, ◌++◌, ℕ, length}
use Rattle.std.specs.Prelude.{map}
use Rattle.history.specs.Callers.{PassKnowledge}
use Rattle.teams.specs.declared.sessions.SessionOutput.{SessionOutput}
use Rattle.running.specs.ServedSessions.{session_passes, all_passes, all_numbers}
use Rattle.running.proofs.ServedSessionLemmas.{sessions_new, all_served}
use Rattle.running.proofs.runs.serve_front.Goals as goal

pub serve_all-requires-after_bounds : goal.serve_all-requires-after_bounds
serve_all-requires-after_bounds g c κs within =
    sessions_new (session_passes (length c.args.passes.items) c.args.parts.items) c.args.parts.items c.in-Ok.served_sessions.items
    c.in-Ok.ensures.served_sessions

pub returns-clause-served : goal.returns-clause-served
returns-clause-served g c =
    let lefts = c.in_ok-lefts.lefts.items in
    all_served g.J.FrontId.setup g.Q.Runner.gives g.I.Read.remaining (session_passes (length c.args.passes.items) c.args.parts.items) c.args.parts.items
    c.in-Ok.served_sessions.items lefts c.in_ok-sessions.sessions.items c.end_sessions.new.back.workers.items c.end_sessions.new.back.passes.items
    c.end_sessions.new.back.outputs.items c.in-Ok.ensures.served_sessions c.in_ok-lefts.ensures.outputs
    (c.in_ok-sessions.ensures ∙ ap (map (λ d. d.store.caller.number)) c.deref.ensures.value)
    (c.in_ok-end_sessions.ensures.numbers ∙ ap (λ (ns : List ℕ). ns ++ all_numbers lefts) c.in_ok-back.ensures.workers)
    (c.in_ok-end_sessions.ensures.passes ∙ ap (λ (ps : List PassKnowledge). ps ++ all_passes lefts) c.in_ok-back.ensures.passes)
    (c.in_ok-end_sessions.ensures.outputs ∙ ap (λ (os : List SessionOutput). os ++ map (λ l. l.output) lefts) c.in_ok-back.ensures.outputs)
