use Rattle.std.proofs.Common.{◌≡◌, drop}
use Rattle.std.specs.Prelude.{option_copied}
use Rattle.model.specs.Goals.{job_before}
use Rattle.model.specs.Orders.{least_from}
use Rattle.jobs.specs.Joining.{jobs_among}
use Rattle.jobs.proofs.goals.Goals.least_job.Given as goal

-- the least so far, and the jobs of those that are left
abbrev pub invariant-loop-number : goal.invariant-loop-number
invariant-loop-number l =
    least_from job_before (option_copied l.least) (jobs_among l.resolved l.self.goals (drop l.number-index l.number-items))
    ≡ least_from job_before (option_copied l.best) (jobs_among l.resolved l.self.goals l.number-items)
