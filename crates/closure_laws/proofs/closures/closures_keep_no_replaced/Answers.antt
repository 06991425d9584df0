use Rattle.closure_laws.proofs.OrderedLemmas.{closures_keep_no_replaced}
use Rattle.closure_laws.proofs.closures.closures_keep_no_replaced.Goals as goal

pub returns : goal.returns
returns c = closures_keep_no_replaced
