use Rattle.laws.proofs.MapLemmas.{settled_by_set}
use Rattle.laws.proofs.settling.settling_is_by_set.Goals as goal

pub returns : goal.returns
returns c = settled_by_set
