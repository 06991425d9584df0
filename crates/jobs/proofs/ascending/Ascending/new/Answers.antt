use Rattle.jobs.proofs.PlaceLemmas.{rises_none}
use Rattle.jobs.proofs.ascending.Ascending.new.Goals as goal

pub invariant_of-result : goal.invariant_of-result
invariant_of-result c = record { rising = rw c.new.ensures.items rises_none }
