use Rattle.std.proofs.Common.{◌≡◌, ◌-◌, length}
use Rattle.std.specs.Prelude.{option_copied, flat_map, None}
use Rattle.model.specs.Goals.{job_before}
use Rattle.model.specs.Orders.{least_from}
use Rattle.trust.specs.Trusting.{holds}
use Rattle.jobs.specs.Joining.{jobs_with, led_at, running_at, places_from}
use Rattle.jobs.proofs.users.Jobs.join.Given as goal

-- the least so far, and the jobs of those that are left
abbrev pub invariant-loop-place : goal.invariant-loop-place
invariant-loop-place l =
    least_from job_before (option_copied l.least)
    (jobs_with l.resolved (flat_map (led_at l.self) (places_from (holds l.near) l.place (length l.self.goals - l.place))))
    ≡ least_from job_before None (jobs_with l.resolved (running_at (holds l.near) l.self))
