use Rattle.std.specs.Prelude.{◌≡◌, ◌-◌, ◌^◌, min, take}
use Rattle.running.specs.ServedSessions.{passes_needed}
use Rattle.running.proofs.runs.count_passes.Given as goal

-- those of the files so far are counted
abbrev pub invariant-loop-part : goal.invariant-loop-part
invariant-loop-part g l = l.count ≡ min (passes_needed (take l.part-index l.parts)) (2 ^ 64 - 1)
