use Rattle.std.proofs.Common.{◌≡◌, map, take}
use Rattle.classes.specs.Admitting.{mask_in}
use Rattle.classes.proofs.admission_input.masks_of.Given as goal

abbrev pub invariant-loop-input : goal.invariant-loop-input
invariant-loop-input l = l.masks.items ≡ map mask_in (take l.input-index l.inputs)
