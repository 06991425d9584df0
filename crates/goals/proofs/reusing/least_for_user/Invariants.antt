use Rattle.std.proofs.Common.{◌≡◌, drop}
use Rattle.std.specs.Prelude.{option_copied}
use Rattle.model.specs.Orders.{least_from}
use Rattle.jobs.specs.Owned.{goals_at}
use Rattle.goals.specs.Reusing.{path_before, found_among}
use Rattle.goals.proofs.reusing.least_for_user.Given as goal

-- the least so far, and the goals of the numbers that are left
abbrev pub invariant-loop-number : goal.invariant-loop-number
invariant-loop-number l =
    least_from path_before (option_copied l.least) (found_among l.resolved l.labels l.desk (goals_at l.place l.state.jobs) (drop l.number-index l.number-items))
    ≡ least_from path_before (option_copied l.best) (found_among l.resolved l.labels l.desk (goals_at l.place l.state.jobs) l.number-items)
