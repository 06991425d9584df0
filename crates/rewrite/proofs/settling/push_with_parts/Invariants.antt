use Rattle.std.proofs.Common.{◌≡◌, ◌++◌, take}
use Rattle.std.specs.List.{flat_map}
use Rattle.path_sets.specs.PathSets.{with_part}
use Rattle.rewrite.proofs.settling.push_with_parts.Given as goal

abbrev pub invariant-loop-part : goal.invariant-loop-part
invariant-loop-part l = l.paths.items ≡ l.initial.paths.items ++ flat_map (λ part. with_part part l.fn.found) (take l.part-index l.part-items)
