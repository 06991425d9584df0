use Rattle.aterm.specs.Parts.{derivation_of}
use Rattle.aterm.proofs.Tests.{derivation_passes}
use Rattle.aterm.proofs.derivation.Derivation.parts.Goals as goal

pub returns-clause-passes : goal.returns-clause-passes
returns-clause-passes c = rw (← c.self.view_is) (derivation_passes (derivation_of c.self.inside.parts) c.self.invariant)
