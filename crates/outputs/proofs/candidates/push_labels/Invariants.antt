use Rattle.std.proofs.Common.{◌≡◌, ◌++◌, take}
use Rattle.outputs.proofs.candidates.push_labels.Given as goal

abbrev pub invariant-loop-label : goal.invariant-loop-label
invariant-loop-label l = l.labels.items ≡ l.initial.labels.items ++ take l.label-index l.more
