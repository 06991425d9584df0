use Rattle.laws.proofs.GoalDerivationLemmas.{plans_known}
use Rattle.laws.proofs.events.plans_find_derivations.Goals as goal

pub returns : goal.returns
returns c = plans_known
