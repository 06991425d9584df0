use Rattle.std.proofs.Common.{drop}
use Rattle.schedule.specs.Sweeping.{keeps_path}
use Rattle.schedule.proofs.HoldingLemmas.{Left}
use Rattle.schedule.proofs.holding.hold_goals.Given as goal

abbrev pub invariant-loop-goal : goal.invariant-loop-goal
invariant-loop-goal l =
    Left (λ q g. keeps_path g q) l.fn.held.keys l.held.keys l.goals (drop l.goal-index l.goals)
