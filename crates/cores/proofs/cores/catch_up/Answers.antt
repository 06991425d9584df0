use Rattle.std.proofs.Common.{subst}
use Rattle.std.specs.Arc.{arc_value}
use Rattle.history.specs.declared.row.Row.{Row}
use Rattle.history.specs.Histories.{event_in}
use Rattle.cores.specs.declared.lag.Lag.{Lag}
use Rattle.cores.specs.Turns.{Behind, HasTaken}
use Rattle.cores.proofs.TurnLemmas.{unchanged, caught_nothing, caught_row, caught_sweep, on_ok}
use Rattle.cores.proofs.cores.catch_up.Goals as goal

pub returns-in-Nothing-clause-caught : goal.returns-in-Nothing-clause-caught
returns-in-Nothing-clause-caught c = caught_nothing c.args.lag.now c.args.core.now c.in-Nothing.is

pub returns-in-Row-clause-caught : goal.returns-in-Row-clause-caught
returns-in-Row-clause-caught c =
    let old = c.args.core.now in
    on_ok c.take_row.result _ _ (λ taken. caught_row c.args.lag.now (event_in (arc_value c.in-Row.row)) old c.take_row.new.core
    (λ shown behind. subst (λ (l : Lag). Behind l old shown) c.in-Row.is behind)
    (subst (λ (r : Row). HasTaken old (event_in r) c.take_row.new.core) c.deref.ensures taken)) c.take_row.ensures.taken

pub returns-in-Sweep-clause-caught : goal.returns-in-Sweep-clause-caught
returns-in-Sweep-clause-caught c =
    on_ok c.sweep.result _ _ (caught_sweep c.args.lag.now c.args.core.now c.sweep.new.core c.in-Sweep.is) c.sweep.ensures.swept

pub returns-in-Unknown-clause-same : goal.returns-in-Unknown-clause-same
returns-in-Unknown-clause-same c = unchanged c.args.core.now
