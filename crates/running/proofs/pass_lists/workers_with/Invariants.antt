use Rattle.std.specs.Prelude.{◌≡◌, ◌+◌, length}
use Rattle.running.specs.ServedSessions.{AreFirst, first_workers}
use Rattle.running.proofs.pass_lists.workers_with.Given as goal

-- each runner so far has taken a pass
abbrev pub invariant-loop-runner : goal.invariant-loop-runner
invariant-loop-runner g l =
    AreFirst l.passes.items × (length l.fn.passes.items ≡ length l.passes.items + length l.yielded)
    × (l.workers.items ≡ first_workers (length l.passes.items) l.yielded)
