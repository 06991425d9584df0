use Rattle.closure_laws.proofs.KeptLemmas.{plans_keep_no_replaced}
use Rattle.closure_laws.proofs.closures.plans_keep_no_replaced.Goals as goal

pub returns : goal.returns
returns c = plans_keep_no_replaced
