use Rattle.std.proofs.Common.{◌<◌, arith, Ok}
use Rattle.trust.specs.Trusting.{holds}
use Rattle.goals.proofs.StateLemmas.{few_of}
use Rattle.goals.proofs.PlannedLemmas.{told_so, none_so, goal_needed}
use Rattle.goals.proofs.planning.plan_for_goal.Goals as goal

pub closure-reached-requires : goal.closure-reached-requires
closure-reached-requires c = let few = few_of c.args.state.now in let below : c.args.place < _ = c.requires in omega (arith, few, below)

pub returns-in_default-clause-needed : goal.returns-in_default-clause-needed
returns-in_default-clause-needed c = λ made has d it.
    absurd (none_so c.args.state.now c.args.place c.args.number (holds c.closure-reached.result) c.closure-reached.ensures c.requires
    c.in_default.ensures.none d it)

pub returns-clause-needed : goal.returns-clause-needed
returns-clause-needed c =
    let s = c.args.state.now in
    let it = told_so s c.args.place c.args.number (holds c.closure-reached.result) c.closure-reached.ensures c.requires
    (Ok c.in-Ok.admitted) c.in-Ok.ensures.told in
    goal_needed s c.args.place c.args.number c.in-Ok.admitted.now.derivation c.plan_to_build.result c.plan_or_none.result c.requires it
    (rw (← c.derivation-derivation.ensures) c.plan_to_build.ensures.planned) c.plan_or_none.ensures.some c.plan_or_none.ensures.none
