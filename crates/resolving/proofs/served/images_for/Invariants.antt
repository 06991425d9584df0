use Rattle.std.proofs.Common.{◌≡◌, take}
use Rattle.model.specs.Resolutions.{images_for}
use Rattle.resolving.proofs.served.images_for.Given as goal

abbrev pub invariant-loop-one : goal.invariant-loop-one
invariant-loop-one l = l.images ≡ images_for (take l.one-index l.served)
