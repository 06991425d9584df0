use Rattle.std.proofs.Common.{◌≡◌, drop}
use Rattle.std.specs.List.{list_any}
use Rattle.model.specs.Repairs.{changes_path}
use Rattle.repair.proofs.replacements.is_any_replaced.Given as goal

abbrev pub invariant-loop-one : goal.invariant-loop-one
invariant-loop-one l = list_any changes_path (drop l.one-index l.replacements) ≡ list_any changes_path l.replacements
