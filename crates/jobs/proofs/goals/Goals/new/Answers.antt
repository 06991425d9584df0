use Rattle.std.proofs.Common.{arith}
use Rattle.jobs.proofs.IndexedLemmas.{indexed_nothing}
use Rattle.jobs.proofs.goals.Goals.new.Goals as goal

pub invariant_of-result : goal.invariant_of-result
invariant_of-result c =
    let made = c.new-2.result in (
      rw c.new.ensures.items (omega arith),
      rw c.new.ensures.items (indexed_nothing c.args.owner made.building.numbers.items made.of_jobs.entries made.leading.entries made.built.entries
          made.done.entries c.new-2.ensures.building c.new-2.ensures.of_jobs c.new-2.ensures.leading c.new-2.ensures.built c.new-2.ensures.done),
    )
