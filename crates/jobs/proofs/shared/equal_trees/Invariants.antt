use Rattle.std.proofs.Common.{◌≡◌, drop, length}
use Rattle.std.specs.Prelude.{◌↔◌}
use Rattle.jobs.specs.Shared.{trees}
use Rattle.jobs.proofs.shared.equal_trees.Given as goal

abbrev pub invariant-loop-i : goal.invariant-loop-i
invariant-loop-i l = record {
  same : (trees l.these ≡ trees l.others) ↔ (trees (drop l.i l.these) ≡ trees (drop l.i l.others));
  count : length l.these ≡ length l.others;
}
