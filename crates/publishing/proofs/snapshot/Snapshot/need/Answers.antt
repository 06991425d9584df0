use Rattle.std.proofs.Common.{sym, ap, subst}
use Rattle.std.specs.Prelude.{IfOk}
use Rattle.schedule.specs.declared.state.Core.{Core}
use Rattle.schedule.specs.Standing.{setup_of}
use Rattle.events.specs.Terms.{event_of}
use Rattle.publishing.specs.Following.{Follows, IsNeedAfter}
use Rattle.publishing.proofs.FollowLemmas.{needs}
use Rattle.publishing.proofs.snapshot.Snapshot.need.Goals as goal

pub returns-clause-need : goal.returns-clause-need
returns-clause-need c =
    let rows = c.self.inside.seen.seen.log in
    let event = event_of c.args.preparation.event.now in
    rw (← c.self.view_is) (subst (λ setup. IfOk c.need.result (IsNeedAfter setup rows event)) (ap setup_of c.deref.ensures)
    (needs c.deref.result.now rows event c.need.result
    (subst (λ (core : Core). Follows (setup_of core) core rows) (sym c.deref.ensures) c.self.invariant) c.need.ensures.need))
