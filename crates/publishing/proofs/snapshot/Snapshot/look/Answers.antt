use Rattle.std.proofs.Common.{sym, ap, subst}
use Rattle.schedule.specs.declared.state.Core.{Core}
use Rattle.schedule.specs.Standing.{setup_of}
use Rattle.schedule.specs.Queries.{event_for}
use Rattle.publishing.specs.Following.{Follows, FindsRead}
use Rattle.publishing.proofs.FollowLemmas.{finds}
use Rattle.publishing.proofs.snapshot.Snapshot.look.Goals as goal

pub returns : goal.returns
returns c =
    let rows = c.self.inside.seen.seen.log in
    rw (← c.self.view_is) (subst (λ setup. FindsRead setup rows (event_for c.args.query.now) c.look.result) (ap setup_of c.deref.ensures)
    (finds c.closures_are_good.ensures c.deref.result.now rows (event_for c.args.query.now) c.look.result
    (subst (λ (core : Core). Follows (setup_of core) core rows) (sym c.deref.ensures) c.self.invariant) c.look.ensures))
