use Rattle.std.proofs.Common.{◌≡◌, take}
use Rattle.model.specs.References.{paths_of_labels}
use Rattle.repair.proofs.relabelling.paths_of.Given as goal

abbrev pub invariant-loop-label : goal.invariant-loop-label
invariant-loop-label l = l.paths.items ≡ paths_of_labels (take l.label-index l.labels)
