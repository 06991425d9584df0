use Rattle.jobs.proofs.IndexLemmas.{nothing_removed}
use Rattle.jobs.proofs.index.remove_at.Goals as goal

pub returns-in_default-clause-numbers : goal.returns-in_default-clause-numbers
returns-in_default-clause-numbers g c =
    rw c.get_mut.follows.holds-at-none (nothing_removed g.met.K.Eq.laws c.args.key.now c.args.number c.args.index.now.entries c.in_default.ensures.value)
