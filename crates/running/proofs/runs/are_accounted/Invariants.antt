use Rattle.std.specs.Prelude.{◌≡◌, true, map, take}
use Rattle.std.specs.Arc.{arc_value}
use Rattle.running.specs.Runs.{are_accounted}
use Rattle.running.proofs.runs.are_accounted.Given as goal

-- the rows so far are
abbrev pub invariant-loop-shared : goal.invariant-loop-shared
invariant-loop-shared l = are_accounted l.sessions l.workers (map arc_value (take l.shared-index l.rows)) ≡ true
