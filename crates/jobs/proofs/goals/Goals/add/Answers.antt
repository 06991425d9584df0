use Rattle.std.proofs.Common.{[], ◌∷◌, arith, length-append, List}
use Rattle.model.specs.Worlds.{Goal}
use Rattle.model.specs.Goals.{new_goal}
use Rattle.jobs.proofs.IndexedLemmas.{indexed_added}
use Rattle.jobs.proofs.goals.Goals.add.Goals as goal

pub invariant_of-self-2 : goal.invariant_of-self-2
invariant_of-self-2 c =
    let gs : List Goal = c.self.inside.goals.items in
    let y : Goal = new_goal c.args.derivation in
    let lists = c.self.inside.indexes in (
      rw (c.in_ok-push.ensures.items, c.new.ensures) (omega (arith, length-append gs (y ∷ []))),
      rw (c.in_ok-push.ensures.items, c.new.ensures)
          (indexed_added c.self.inside.owner c.args.derivation gs lists.building.numbers.items lists.of_jobs.entries lists.leading.entries lists.built.entries
          lists.done.entries c.self.invariant.1),
    )
