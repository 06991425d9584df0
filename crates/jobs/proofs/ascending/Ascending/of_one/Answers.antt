use Rattle.jobs.proofs.PlaceLemmas.{rises_one}
use Rattle.jobs.proofs.ascending.Ascending.of_one.Goals as goal

pub invariant_of-result : goal.invariant_of-result
invariant_of-result c = record { rising = rw (c.in_ok-push.ensures.items, c.new-numbers.ensures.items) (rises_one c.args.number) }
