use Rattle.std.proofs.Common.{length}
use Rattle.realise.proofs.additions.+add_to_each.Given as goal

abbrev pub decreases-add_to_each : goal.decreases-add_to_each
decreases-add_to_each l = length l.desks.now
