use Rattle.std.specs.Prelude.{◌≡◌, ◌++◌, map}
use Rattle.running.specs.ServedSessions.{all_passes, all_numbers}
use Rattle.running.proofs.pass_lists.end_sessions.Given as goal

-- those of the sessions so far are back, and their outputs are there
abbrev pub invariant-loop-left : goal.invariant-loop-left
invariant-loop-left g l =
    (l.back.passes.items ≡ l.fn.back.passes.items ++ all_passes l.yielded)
    × (l.back.workers.items ≡ l.fn.back.workers.items ++ all_numbers l.yielded)
    × (l.back.outputs.items ≡ l.fn.back.outputs.items ++ map (λ left. left.output) l.yielded)
