use Rattle.handlers.specs.Serving.{plan_for}
use Rattle.handlers.specs.States.{observation_at}
use Rattle.handlers.proofs.PlannedLemmas.{planned_for_him, needed_by}
use Rattle.handlers.proofs.given.plan_for_take.Goals as goal

pub returns-clause-needed : goal.returns-clause-needed
returns-clause-needed c =
    let s = c.args.state.now in
    needed_by (plan_for (observation_at s c.args.place) c.args.class.now) c.plan_for.result c.plan_or_none.result
    (planned_for_him s c.args.place c.args.class.now c.plan_for.result c.requires c.plan_for.ensures.planned)
    c.plan_or_none.ensures.some c.plan_or_none.ensures.none
