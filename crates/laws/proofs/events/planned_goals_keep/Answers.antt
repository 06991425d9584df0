use Rattle.laws.proofs.KeptLemmas.{planned_keep}
use Rattle.laws.proofs.events.planned_goals_keep.Goals as goal

pub returns : goal.returns
returns c = planned_keep
