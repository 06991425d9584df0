use Rattle.std.proofs.Common.{sym, subst, [], ◌∷◌, ◌++◌}
use Rattle.teams.specs.Sessions.{AllLeave}
use Rattle.teams.proofs.ServedLemmas.{leave_push}
use Rattle.teams.proofs.sessions.all_left.Goals as goal

pub loop-result-preserved : goal.loop-result-preserved
loop-result-preserved g c =
    let result = c.in-Some.result in
    subst (AllLeave (c.loop-result.yielded ++ result ∷ [])) (sym c.in_ok-push.ensures.items)
    (leave_push c.loop-result.yielded c.loop-result.lefts.items result c.in_ok-result.field-0 c.loop-result.invariant c.in_ok-result.was)
