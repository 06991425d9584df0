use Rattle.std.proofs.lemmas.Result.{err_from_is_err_and}
use Rattle.repair.proofs.EntryLemmas.{plan_served, plan_refused}
use Rattle.repair.proofs.serving.served_closure_with.Goals as goal

pub returns-in_err-served-clause-served : goal.returns-in_err-served-clause-served
returns-in_err-served-clause-served c =
    let p = err_from_is_err_and c.from_residual.result c.from_residual.ensures.1 in
    rw (p.1, p.2) (plan_refused c.args.plan.now c.in_err-served.field-0.0 c.in_err-served.ensures.served)

pub returns-clause-served : goal.returns-clause-served
returns-clause-served c =
    plan_served c.args.plan.now c.in_ok-served.ensures.in_order c.in_ok-served.served.entries c.sources.result.now c.entries_with.result
    c.in_ok-served.ensures.served c.sources.ensures c.entries_with.ensures
