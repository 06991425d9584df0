use Rattle.std.proofs.Common.{◌≡◌, take}
use Rattle.repair.specs.AtHand.{paths_of_key}
use Rattle.repair.proofs.cache.key_of.Given as goal

abbrev pub invariant-loop-one : goal.invariant-loop-one
invariant-loop-one l = l.key.items ≡ paths_of_key l.chosen (take l.one-index l.replacements)
