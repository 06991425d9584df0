use Rattle.std.proofs.Common.{drop}
use Rattle.schedule.specs.Sweeping.{holds_path, IsHolding}
use Rattle.schedule.proofs.HoldingLemmas.{Left, Suffices}
use Rattle.schedule.proofs.holding.hold_desks.Given as goal

abbrev pub invariant-loop-desk : goal.invariant-loop-desk
invariant-loop-desk l =
    Left (λ q d. holds_path d q) l.fn.held.keys l.held.keys l.desks (drop l.desk-index l.desks)
    × Suffices IsHolding l.desks (drop l.desk-index l.desks)
