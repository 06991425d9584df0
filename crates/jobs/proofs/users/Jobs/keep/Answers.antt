use Rattle.std.proofs.Common.{◌<◌, ap, sym, subst, ◌∙◌, length, length-set, List}
use Rattle.jobs.specs.Owned.{all_of}
use Rattle.jobs.specs.Planners.{AddsPlace}
use Rattle.model.specs.Goals.{goal_at, with_goal_at}
use Rattle.jobs.specs.Statuses.{planned_with}
use Rattle.jobs.proofs.UserLemmas.{goals_read, goals_written, on_ok}
use Rattle.jobs.specs.Owned.{Owned}
use Rattle.jobs.proofs.PlannerLemmas.{by_result, same_written, planned_written, planners_wider, added_widens}
use Rattle.jobs.proofs.users.Jobs.keep.Goals as goal

pub invariant_of-self-2 : goal.invariant_of-self-2
invariant_of-self-2 c =
    let each : List Owned = c.self.inside.all.items in
    let below : c.args.place < length c.args.self.now.goals = c.requires.of_run in
    let sets = c.insert.new.self.sets.entries in
    let old = c.self.inside.planners.sets.entries in
    let adds : AddsPlace c.args.resolved.scratch c.args.place old sets = subst (λ p. AddsPlace p c.args.place old sets)
    (c.in_ok-clone.ensures.cases ∙ c.scratch.ensures) c.in_ok-insert.ensures in
    let x : Owned = c.index_mut.result.now in
    let y : Owned = c.keep.new.self in (
      rw (length-set {A = Owned}) c.self.invariant.0,
      by_result c.keep.result c.keep.ensures.planned c.keep.ensures.kept
          (λ changes. planned_written c.args.self.now each c.args.place x y c.self.view_is below c.index_mut.ensures.value sets old c.args.number
          c.args.resolved c.requires.there changes adds c.self.invariant.1)
          (λ is. same_written c.args.self.now each c.args.place x y c.self.view_is below c.index_mut.ensures.value sets is
          (planners_wider old sets (all_of each) (added_widens c.args.resolved.scratch c.args.place old sets adds) c.self.invariant.1)),
    )

pub returns-clause-planned : goal.returns-clause-planned
returns-clause-planned c =
    let read = goals_read c.args.self.now c.self.inside.all.items c.args.place c.index_mut.result.now c.self.view_is c.requires.of_run
    c.index_mut.ensures.value in
    on_ok c.keep.result
    (λ changes g at.
    goals_written c.args.self.now c.self.inside.all.items c.args.place c.index_mut.result.now c.keep.new.self
    (with_goal_at c.args.number (planned_with c.args.resolved g)) c.self.view_is c.requires.of_run c.index_mut.ensures.value
    (changes g (ap (goal_at c.args.number) (sym read) ∙ at)))
    c.keep.ensures.planned
