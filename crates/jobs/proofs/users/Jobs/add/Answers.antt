use Rattle.std.proofs.Common.{◌<◌, [], ◌∷◌, ◌++◌, length, length-set, List}
use Rattle.model.specs.Goals.{new_goal}
use Rattle.jobs.proofs.UserLemmas.{goals_written, on_ok}
use Rattle.jobs.specs.Owned.{Owned}
use Rattle.jobs.proofs.PlannerLemmas.{by_result, same_written, added_written}
use Rattle.jobs.proofs.users.Jobs.add.Goals as goal

pub invariant_of-self : goal.invariant_of-self
invariant_of-self c =
    let each : List Owned = c.self.inside.all.items in
    let below : c.args.place < length c.args.self.now.goals = c.requires in
    let sets = c.self.inside.planners.sets.entries in
    let x : Owned = c.index_mut.result.now in
    let y : Owned = c.add.new.self in (
      rw (length-set {A = Owned}) c.self.invariant.0,
      by_result c.add.result c.add.ensures.added c.add.ensures.kept
          (λ is. added_written c.args.self.now each c.args.place x y c.self.view_is below c.index_mut.ensures.value sets c.args.derivation is c.self.invariant.1)
          (λ is. same_written c.args.self.now each c.args.place x y c.self.view_is below c.index_mut.ensures.value sets is c.self.invariant.1),
    )

pub returns-clause-added : goal.returns-clause-added
returns-clause-added c =
    on_ok c.add.result (goals_written c.args.self.now c.self.inside.all.items c.args.place c.index_mut.result.now c.add.new.self
    (λ gs. gs ++ new_goal c.args.derivation ∷ [])
    c.self.view_is c.requires c.index_mut.ensures.value) c.add.ensures.added
