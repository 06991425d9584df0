use Rattle.std.proofs.Common.{drop}
use Rattle.schedule.specs.Sweeping.{keep_path}
use Rattle.schedule.proofs.HoldingLemmas.{Left}
use Rattle.schedule.proofs.holding.hold_jobs.Given as goal

abbrev pub invariant-loop-place : goal.invariant-loop-place
invariant-loop-place l =
    Left (λ q goals. keep_path goals q) l.fn.held.keys l.held.keys l.jobs.goals (drop l.place l.jobs.goals)
