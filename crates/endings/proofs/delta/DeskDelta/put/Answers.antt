use Rattle.std.proofs.Common.{refl, rules}
use Rattle.std.proofs.lemmas.Result.{err_from_is_err_and}
use Rattle.endings.proofs.delta.DeskDelta.put.Goals as goal

pub returns-in_err-clone : goal.returns-in_err-clone
returns-in_err-clone c =
    let p = err_from_is_err_and c.from_residual.result c.from_residual.ensures.1 in
    rw (p.1, p.2) (record { delta = tt; status = tt; memory = refl })

pub returns-in_err-push : goal.returns-in_err-push
returns-in_err-push c =
    let p = err_from_is_err_and c.from_residual-in_err-push.result c.from_residual-in_err-push.ensures.1 in
    rw (p.1, p.2) (record { delta = tt; status = tt; memory = refl })

pub returns-in_err-push-2 : goal.returns-in_err-push-2
returns-in_err-push-2 c =
    let p = err_from_is_err_and c.from_residual-in_err-push-2.result c.from_residual-in_err-push-2.ensures.1 in
    rw (p.1, p.2) (record { delta = tt; status = tt; memory = refl })

pub returns-clause-status : goal.returns-clause-status
returns-clause-status c = search rules
