use Rattle.std.proofs.Common.{◌≡◌}
use Rattle.std.specs.Prelude.{map}
use Rattle.trust.specs.Trusting.{holds}
use Rattle.handlers.specs.Viewing.{places_of, desk_at, desks_of}
use Rattle.handlers.proofs.view.desks_at.Given as goal

abbrev pub invariant-loop-place : goal.invariant-loop-place
invariant-loop-place l = desks_of l.found.items ≡ map (desk_at l.desks) (places_of (holds l.set) l.place)
