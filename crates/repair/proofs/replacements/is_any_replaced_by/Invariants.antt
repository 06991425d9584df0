use Rattle.std.proofs.Common.{◌≡◌, drop}
use Rattle.std.specs.List.{list_any}
use Rattle.model.specs.Repairs.{is_replaced_by}
use Rattle.repair.proofs.replacements.is_any_replaced_by.Given as goal

abbrev pub invariant-loop-one : goal.invariant-loop-one
invariant-loop-one l = list_any (is_replaced_by l.path) (drop l.one-index l.replacements) ≡ list_any (is_replaced_by l.path) l.replacements
