use Rattle.std.proofs.Common.{◌≡◌, take, map}
use Rattle.model.specs.Repairs.{new_label}
use Rattle.repair.proofs.replacements.new_labels.Given as goal

abbrev pub invariant-loop-one : goal.invariant-loop-one
invariant-loop-one l = l.labels.items ≡ map new_label (take l.one-index l.replacements)
