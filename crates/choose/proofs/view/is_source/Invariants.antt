use Rattle.std.proofs.Common.{◌≡◌, false, take}
use Rattle.std.specs.List.{list_any}
use Rattle.choose.specs.Visible.{desks_of, is_source_on}
use Rattle.choose.proofs.view.is_source.Given as goal

abbrev pub invariant-loop-desk : goal.invariant-loop-desk
invariant-loop-desk l = list_any (is_source_on l.path) (desks_of (Rattle.std.proofs.Common.drop l.desk-index l.desks)) ≡ list_any (is_source_on l.path)
    (desks_of l.desks)
