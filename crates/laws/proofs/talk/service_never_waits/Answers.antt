use Rattle.std.proofs.Common.{refl}
use Rattle.laws.proofs.ModeLemmas.{never_waits}
use Rattle.laws.proofs.talk.service_never_waits.Goals as goal

pub returns : goal.returns
returns c = λ lines rows t. never_waits _ lines rows refl t
