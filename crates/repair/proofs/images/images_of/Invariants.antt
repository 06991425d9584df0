use Rattle.std.proofs.Common.{◌≡◌, take}
use Rattle.model.specs.Settling.{hash_part_in}
use Rattle.model.specs.Repairs.{images_of}
use Rattle.repair.proofs.images.images_of.Given as goal

abbrev pub invariant-loop-one : goal.invariant-loop-one
invariant-loop-one l = l.images ≡ images_of (hash_part_in l.own) (take l.one-index l.replacements)
