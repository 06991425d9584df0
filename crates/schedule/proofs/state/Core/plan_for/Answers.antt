use Rattle.std.proofs.Common.{ap, subst, sym}
use Rattle.std.specs.Prelude.{IfOk}
use Rattle.events.specs.Terms.{request_of}
use Rattle.repair.specs.Counting.{made_in}
use Rattle.repair.specs.Prepared.{HasRepairedIf}
use Rattle.repair.specs.declared.cache.Cache.{Cache}
use Rattle.handlers.specs.States.{observation_at}
use Rattle.schedule.specs.Preparing.{seen_by, HasRepairedAll}
use Rattle.schedule.proofs.PreparingLemmas.{seen_there, taken_by, planned_by}
use Rattle.schedule.proofs.state.Core.plan_for.Goals as goal

pub returns-in-Take-clause-needed : goal.returns-in-Take-clause-needed
returns-in-Take-clause-needed c user found =
    let core = c.args.self.now in
    let result = c.plan_for_take.result in
    subst (λ r. IfOk result (λ plan. (cache : Cache) → HasRepairedIf plan (made_in cache.made) → HasRepairedAll (seen_by core user) r cache))
    (ap request_of (sym c.in-Take.is))
    (taken_by (observation_at core.state c.args.place) (seen_by core user) result c.in-Take.class (seen_there core user c.args.place found)
    c.plan_for_take.ensures.needed)

pub returns-in-Plan-clause-needed : goal.returns-in-Plan-clause-needed
returns-in-Plan-clause-needed c user found =
    let core = c.args.self.now in
    let result = c.plan_for_goal.result in
    subst (λ r. IfOk result (λ plan. (cache : Cache) → HasRepairedIf plan (made_in cache.made) → HasRepairedAll (seen_by core user) r cache))
    (ap request_of (sym c.in-Plan.is))
    (planned_by (observation_at core.state c.args.place) (seen_by core user) result c.in-Plan.number (seen_there core user c.args.place found)
    c.plan_for_goal.ensures.needed)
