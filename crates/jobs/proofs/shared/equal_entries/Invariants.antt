use Rattle.std.proofs.Common.{◌≡◌, drop}
use Rattle.std.specs.Cmp.Lexicographic.{pointwise}
use Rattle.jobs.specs.Shared.{equal_but_tree}
use Rattle.jobs.proofs.shared.equal_entries.Given as goal

abbrev pub invariant-loop-i : goal.invariant-loop-i
invariant-loop-i l = pointwise equal_but_tree (drop l.i l.these) (drop l.i l.others) ≡ pointwise equal_but_tree l.these l.others
