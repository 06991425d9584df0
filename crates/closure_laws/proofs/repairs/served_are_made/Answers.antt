use Rattle.closure_laws.proofs.MadeLemmas.{served_are_made}
use Rattle.closure_laws.proofs.repairs.served_are_made.Goals as goal

pub returns : goal.returns
returns c = served_are_made
