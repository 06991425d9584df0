use Rattle.std.proofs.Common.{◌≡◌, drop}
use Rattle.std.specs.Cmp.Lexicographic.{pointwise}
use Rattle.model.specs.Goals.{same_entry}
use Rattle.jobs.proofs.same.same_entries.Given as goal

abbrev pub invariant-loop-i : goal.invariant-loop-i
invariant-loop-i l = pointwise same_entry (drop l.i l.these) (drop l.i l.others) ≡ pointwise same_entry l.these l.others
