use Rattle.closure_laws.proofs.GoodLemmas.{closures_are_good}
use Rattle.closure_laws.proofs.closures.closures_are_good.Goals as goal

pub returns : goal.returns
returns c = closures_are_good
