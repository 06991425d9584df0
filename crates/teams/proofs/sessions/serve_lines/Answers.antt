use Rattle.std.proofs.Common.{rules}
use Rattle.teams.proofs.ServedLemmas.{served_lines}
use Rattle.teams.proofs.sessions.serve_lines.Goals as goal

pub returns : goal.returns
returns g c =
    served_lines g.S.Store.called g.S.Meet.met g.S.Meet.stopped c.args.building_session.now _ c.args.bytes.items _ _ _ _ _ c.serve_behind-ended.result c.kept_end.result
    (search rules) (search rules)
    (rw c.deref.ensures.value at c.serve_behind-ended.ensures.ok) (rw c.deref.ensures.value at c.serve_behind-ended.ensures.err) c.serve_behind-ended.ensures.errors
    c.kept_end.ensures
