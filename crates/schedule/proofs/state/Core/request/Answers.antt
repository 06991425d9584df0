use Rattle.std.proofs.Common.{◌≡◌, List, ℕ, None, Some, inr, sym, ◌∙◌, subst}
use Rattle.model.specs.Goals.{goal_at}
use Rattle.model.specs.RunningJobs.{led_job}
use Rattle.jobs.specs.Owned.{goals_at}
use Rattle.trust.specs.Trusting.{trusts}
use Rattle.trust.specs.Naming.{place_of, name_at}
use Rattle.jobs.specs.Asking.{IsAnswerTo}
use Rattle.schedule.specs.Standing.{setup_of, world_of}
use Rattle.schedule.proofs.AskingLemmas.{led_at, led_by_none}
use Rattle.schedule.proofs.state.Core.request.Goals as goal

pub returns-in_default-clause-value : goal.returns-in_default-clause-value
unfolding setup_of world_of
returns-in_default-clause-value c =
    let core = c.args.self.now in
    let found : place_of core.state.users c.args.user.now ≡ None = sym c.in_default.ensures in
    let none = led_by_none core.state.users core.state.limits.charge (trusts core.state.trust) core.state.jobs.goals core.state.table.sources core.state.desks.items
    c.args.user.now c.args.number found in
    record { value = inr none; at_once = λ why e. sym none ∙ e }

pub returns-clause-value : goal.returns-clause-value
unfolding setup_of world_of
returns-clause-value c =
    let core = c.args.self.now in
    let place : ℕ = c.in-Some.place in
    let found : place_of core.state.users c.args.user.now ≡ Some place = sym c.in-Some.ensures in
    let told = subst (λ (users : List (List ℕ)). IsAnswerTo (led_job (record { leader = name_at users place; number = c.args.number })
    (goal_at c.args.number (goals_at place core.state.jobs))) c.led_job.result) c.as_slice.ensures.value c.led_job.ensures in
    subst (λ answer. IsAnswerTo answer c.led_job.result)
    (sym (led_at core.state.users core.state.limits.charge (trusts core.state.trust) core.state.jobs.goals core.state.table.sources core.state.desks.items
    c.args.user.now place c.args.number core.state.run.listed found core.state.run.paired core.state.run.within)) told
