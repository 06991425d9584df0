use Rattle.closure_laws.proofs.GoneLemmas.{replaced_is_gone}
use Rattle.closure_laws.proofs.repairs.replaced_is_gone.Goals as goal

pub returns : goal.returns
returns c = replaced_is_gone
