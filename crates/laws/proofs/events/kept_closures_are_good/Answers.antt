use Rattle.laws.proofs.KeptLemmas.{kept_good}
use Rattle.laws.proofs.events.kept_closures_are_good.Goals as goal

pub returns : goal.returns
returns c = kept_good
