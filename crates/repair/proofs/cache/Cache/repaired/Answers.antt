use Rattle.std.proofs.Common.{◌∙◌, ap}
use Rattle.std.specs.Prelude.{is_some}
use Rattle.repair.proofs.cache.Cache.repaired.Goals as goal

pub returns-clause-made : goal.returns-clause-made
returns-clause-made c step told = c.in_ok-keep_made.ensures.made (ap is_some c.in_ok-outcome.ensures.made ∙ step)
