use Rattle.laws.proofs.OutlookLemmas.{outlooks_foretell}
use Rattle.laws.proofs.outlooks.outlooks_foretell_plans.Goals as goal

pub returns : goal.returns
returns c = outlooks_foretell
