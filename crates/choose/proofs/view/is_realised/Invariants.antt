use Rattle.std.proofs.Common.{◌≡◌, drop}
use Rattle.std.specs.List.{list_any}
use Rattle.choose.specs.Visible.{desks_of, is_realised_on}
use Rattle.choose.proofs.view.is_realised.Given as goal

abbrev pub invariant-loop-desk : goal.invariant-loop-desk
invariant-loop-desk l = list_any (is_realised_on l.class) (desks_of (drop l.desk-index l.desks)) ≡ list_any (is_realised_on l.class) (desks_of l.desks)
