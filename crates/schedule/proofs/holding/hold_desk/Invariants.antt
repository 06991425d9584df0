use Rattle.std.specs.Prelude.{bytes_eq}
use Rattle.realise.specs.Held.{paths_held}
use Rattle.schedule.proofs.HoldingLemmas.{Left}
use Rattle.schedule.proofs.holding.hold_desk.Given as goal

abbrev pub invariant-loop-path : goal.invariant-loop-path
invariant-loop-path l =
    Left (λ q p. bytes_eq p q) l.fn.held.keys l.held.keys (paths_held l.desk.archives) l.path-iterator
