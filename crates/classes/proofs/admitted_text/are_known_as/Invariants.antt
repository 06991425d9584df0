use Rattle.std.proofs.Common.{take}
use Rattle.classes.specs.Admitting.{AreKnownAs}
use Rattle.classes.proofs.admitted_text.are_known_as.Given as goal

abbrev pub invariant-loop-input : goal.invariant-loop-input
invariant-loop-input l = AreKnownAs l.known (take l.input-index l.inputs)
