use Rattle.laws.proofs.KeptLemmas.{only_plans}
use Rattle.laws.proofs.events.only_plans_change_kept.Goals as goal

pub returns : goal.returns
returns c = only_plans
