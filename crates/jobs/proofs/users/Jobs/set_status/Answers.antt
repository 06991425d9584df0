use Rattle.std.proofs.Common.{◌≡◌, ◌<◌, Some, ap, sym, ◌∙◌, length, length-set, List}
use Rattle.model.specs.Goals.{goal_at, with_goal_at, in_status}
use Rattle.events.specs.Statuses.{status_of}
use Rattle.jobs.proofs.UserLemmas.{goals_read, goals_written}
use Rattle.jobs.specs.Owned.{Owned}
use Rattle.jobs.proofs.PlannerLemmas.{status_written}
use Rattle.jobs.proofs.users.Jobs.set_status.Goals as goal

pub invariant_of-self : goal.invariant_of-self
invariant_of-self c =
    let each : List Owned = c.self.inside.all.items in
    let below : c.args.place < length c.args.self.now.goals = c.requires.of_run in
    let sets = c.self.inside.planners.sets.entries in
    let x : Owned = c.index_mut.result.now in
    let y : Owned = c.set_status.new.self in (
      rw (length-set {A = Owned}) c.self.invariant.0,
      status_written c.args.self.now each c.args.place x y c.self.view_is below c.index_mut.ensures.value sets c.args.number (status_of c.args.status)
          c.requires.there c.set_status.ensures c.self.invariant.1,
    )

pub returns : goal.returns
returns c g at =
    let read = goals_read c.args.self.now c.self.inside.all.items c.args.place c.index_mut.result.now c.self.view_is c.requires.of_run
    c.index_mut.ensures.value in
    let here : goal_at c.args.number c.index_mut.result.now.goals ≡ Some g = ap (goal_at c.args.number) (sym read) ∙ at in
    let write = goals_written c.args.self.now c.self.inside.all.items c.args.place c.index_mut.result.now c.set_status.new.self
    (with_goal_at c.args.number (in_status (status_of c.args.status) g)) c.self.view_is c.requires.of_run c.index_mut.ensures.value in
    write (c.set_status.ensures g here)
