use Rattle.std.proofs.Common.{◌≡◌}
use Rattle.std.specs.Prelude.{option_copied, filter}
use Rattle.model.specs.Orders.{least_from}
use Rattle.goals.specs.Reusing.{path_before, is_found_at}
use Rattle.goals.proofs.reusing.least_of.Given as goal

-- the least so far, and the records that are left
abbrev pub invariant-loop-one : goal.invariant-loop-one
invariant-loop-one l =
    least_from path_before (option_copied l.least) (filter (is_found_at l.labels l.path) l.one-iterator)
    ≡ least_from path_before (option_copied l.best) (filter (is_found_at l.labels l.path) l.fn.records)
