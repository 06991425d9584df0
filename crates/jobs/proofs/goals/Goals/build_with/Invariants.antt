use Rattle.std.proofs.Common.{◌≡◌, drop}
use Rattle.std.specs.List.{list_any}
use Rattle.model.specs.Goals.{goal_at}
use Rattle.model.specs.ForgetRequests.{builds_with}
use Rattle.trust.specs.Trusting.{holds}
use Rattle.trust.specs.Naming.{names}
use Rattle.jobs.proofs.ForgettingLemmas.{passes}
use Rattle.jobs.proofs.goals.Goals.build_with.Given as goal

-- it is found among the numbers that are left
abbrev pub invariant-loop-number : goal.invariant-loop-number
invariant-loop-number l =
    list_any (λ n. passes (builds_with (names l.users (holds l.reached)) l.class l.path) (goal_at n l.self.goals)) (drop l.number-index l.number-items)
    ≡ list_any (λ n. passes (builds_with (names l.users (holds l.reached)) l.class l.path) (goal_at n l.self.goals)) l.number-items
