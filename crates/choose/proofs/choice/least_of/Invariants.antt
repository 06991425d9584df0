use Rattle.std.proofs.Common.{◌≡◌, drop}
use Rattle.std.specs.Prelude.{option_copied}
use Rattle.model.specs.Orders.{least_from, least}
use Rattle.choose.specs.Visible.{recorded_before, desks_of, records_on, those_at}
use Rattle.choose.proofs.choice.least_of.Given as goal

abbrev pub invariant-loop-desk : goal.invariant-loop-desk
invariant-loop-desk l =
    least_from recorded_before (option_copied l.best) (those_at (option_copied l.path) (records_on l.class (desks_of (drop l.desk-index l.desks)))) ≡ least
    recorded_before (those_at (option_copied l.path) (records_on l.class (desks_of l.desks)))
