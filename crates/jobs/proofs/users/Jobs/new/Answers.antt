use Rattle.std.proofs.Common.{◌≡◌, ◌∙◌, ap, arith, []}
use Rattle.std.proofs.lemmas.List.{take_all, length-map}
use Rattle.jobs.specs.Owned.{Owned, all_of}
use Rattle.jobs.proofs.UserLemmas.{no_goals, all_without}
use Rattle.jobs.proofs.PlannerLemmas.{planners_of_nobody}
use Rattle.jobs.proofs.users.Jobs.new.Goals as goal

pub invariant_of-result : goal.invariant_of-result
invariant_of-result c =
    let all : c.loop-user.all.items ≡ no_goals c.args.users.now =
    c.loop-user.invariant ∙ ap no_goals (take_all c.loop-user.user-index c.args.users.now (omega arith)) in (
      rw (all, length-map {B = Owned} c.args.users.now (λ u. record { owner = u; goals = [] })) c.requires,
      planners_of_nobody c.new-2.result.sets.entries c.args.users.now (all_of c.loop-user.all.items) (ap all_of all ∙ all_without c.args.users.now),
    )

pub returns-clause-value : goal.returns-clause-value
returns-clause-value c =
    ap all_of (c.loop-user.invariant ∙ ap no_goals (take_all c.loop-user.user-index c.args.users.now (omega arith))) ∙ all_without c.args.users.now
