use Rattle.std.proofs.Common.{◌<◌, ap, sym, ◌∙◌, length, length-set, List}
use Rattle.jobs.specs.Owned.{goal_of}
use Rattle.model.specs.Worlds.{Building}
use Rattle.model.specs.Goals.{goal_at, with_goal_at, in_status}
use Rattle.jobs.proofs.UserLemmas.{goals_read, goals_written, on_ok}
use Rattle.jobs.specs.Owned.{Owned}
use Rattle.jobs.proofs.PlannerLemmas.{by_result, same_written, status_written, idle_there}
use Rattle.jobs.proofs.users.Jobs.enter.Goals as goal

pub invariant_of-self : goal.invariant_of-self
invariant_of-self c =
    let each : List Owned = c.self.inside.all.items in
    let below : c.args.place < length c.args.self.now.goals = c.requires.of_run in
    let sets = c.self.inside.planners.sets.entries in
    let x : Owned = c.index_mut.result.now in
    let y : Owned = c.enter.new.self in (
      rw (length-set {A = Owned}) c.self.invariant.0,
      by_result c.enter.result c.enter.ensures.entered c.enter.ensures.kept
          (λ changes. status_written c.args.self.now each c.args.place x y c.self.view_is below c.index_mut.ensures.value sets c.args.number
          (Building c.args.job) (idle_there (goal_of c.args.place c.args.number c.args.self.now) c.requires.idle) changes c.self.invariant.1)
          (λ is. same_written c.args.self.now each c.args.place x y c.self.view_is below c.index_mut.ensures.value sets is c.self.invariant.1),
    )

pub returns-clause-entered : goal.returns-clause-entered
returns-clause-entered c =
    let read = goals_read c.args.self.now c.self.inside.all.items c.args.place c.index_mut.result.now c.self.view_is c.requires.of_run
    c.index_mut.ensures.value in
    on_ok c.enter.result
    (λ changes g at.
    goals_written c.args.self.now c.self.inside.all.items c.args.place c.index_mut.result.now c.enter.new.self
    (with_goal_at c.args.number (in_status (Building c.args.job) g)) c.self.view_is c.requires.of_run c.index_mut.ensures.value
    (changes g (ap (goal_at c.args.number) (sym read) ∙ at)))
    c.enter.ensures.entered
