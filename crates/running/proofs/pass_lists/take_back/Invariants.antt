use Rattle.std.specs.Prelude.{◌≡◌, ◌++◌, map}
use Rattle.running.specs.ServedSessions.{numbers_in}
use Rattle.running.proofs.pass_lists.take_back.Given as goal

-- those of the workers so far are back
abbrev pub invariant-loop-worker : goal.invariant-loop-worker
invariant-loop-worker g l =
    (l.back.passes.items ≡ l.fn.back.passes.items ++ map (λ w. w.store) l.yielded)
    × (l.back.workers.items ≡ l.fn.back.workers.items ++ numbers_in l.yielded) × (l.back.outputs ≡ l.fn.back.outputs)
