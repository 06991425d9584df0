use Rattle.std.proofs.Common.{subst}
use Rattle.model.specs.Archives.{AreBytes}
use Rattle.events.proofs.OutputLemmas.{are_bytes}
use Rattle.events.proofs.output.Output.sound.Goals as goal

pub returns : goal.returns
returns c = subst AreBytes c.self.view_is (are_bytes c.self.inside.written c.self.invariant)
