use Rattle.std.proofs.Common.{◌≡◌, drop}
use Rattle.std.specs.Cmp.Lexicographic.{pointwise}
use Rattle.jobs.specs.Shared.{equal_label}
use Rattle.jobs.proofs.shared.equal_labels.Given as goal

abbrev pub invariant-loop-i : goal.invariant-loop-i
invariant-loop-i l = pointwise equal_label (drop l.i l.these) (drop l.i l.others) ≡ pointwise equal_label l.these l.others
