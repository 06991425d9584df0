use Rattle.std.proofs.Common.{◌≡◌}
use Rattle.std.specs.Prelude.{option_copied}
use Rattle.model.specs.Orders.{least_from}
use Rattle.choose.specs.Visible.{recorded_before, those_at}
use Rattle.choose.proofs.choice.least_from.Given as goal

abbrev pub invariant-loop-candidate : goal.invariant-loop-candidate
invariant-loop-candidate l =
    least_from recorded_before (option_copied l.best) (those_at (option_copied l.path) l.candidate-iterator)
    ≡ least_from recorded_before (option_copied l.initial.best) (those_at (option_copied l.path) l.fn.records)
