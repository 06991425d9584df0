use Rattle.laws.proofs.GoalDerivationLemmas.{goals_known}
use Rattle.laws.proofs.events.goals_have_derivations.Goals as goal

pub returns : goal.returns
returns c = goals_known
