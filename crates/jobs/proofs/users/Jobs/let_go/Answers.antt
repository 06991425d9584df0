use Rattle.std.proofs.Common.{length-set, map, List}
use Rattle.model.specs.ForgetRequests.{let_go}
use Rattle.jobs.specs.Owned.{Owned}
use Rattle.jobs.proofs.UserLemmas.{goals_written}
use Rattle.jobs.proofs.PlannerLemmas.{let_go_written}
use Rattle.jobs.proofs.users.Jobs.let_go.Goals as goal

pub invariant_of-self : goal.invariant_of-self
invariant_of-self c =
    let each : List Owned = c.self.inside.all.items in
    let sets = c.self.inside.planners.sets.entries in (
      rw (length-set {A = Owned}) c.self.invariant.0,
      let_go_written c.args.self.now each c.args.place c.index_mut.result.now c.let_go.new.self c.self.view_is c.requires c.index_mut.ensures.value sets
          c.args.class.now c.args.path.now c.let_go.ensures c.self.invariant.1,
    )

pub returns : goal.returns
returns c =
    goals_written c.args.self.now c.self.inside.all.items c.args.place c.index_mut.result.now c.let_go.new.self
    (map (let_go c.args.class.now c.args.path.now)) c.self.view_is c.requires c.index_mut.ensures.value c.let_go.ensures
