use Rattle.aterm.proofs.Exact.{derivations_pass}
use Rattle.aterm.proofs.laws.derivations_pass.Goals as goal

pub returns : goal.returns
returns c = derivations_pass
