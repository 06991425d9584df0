use Rattle.std.proofs.Common.{◌≡◌}
use Rattle.std.specs.Prelude.{option_copied}
use Rattle.model.specs.Orders.{least}
use Rattle.trust.specs.Trusting.{holds}
use Rattle.handlers.specs.Viewing.{places_of}
use Rattle.goals.specs.Reusing.{path_before, found_in}
use Rattle.goals.proofs.reusing.least_for_all.Given as goal

abbrev pub invariant-loop-place : goal.invariant-loop-place
invariant-loop-place l =
    option_copied l.least ≡ least path_before (found_in l.resolved l.labels l.state.desks.items l.state.jobs.goals (places_of (holds l.near) l.place))
