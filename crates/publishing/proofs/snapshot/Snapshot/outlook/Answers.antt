use Rattle.std.proofs.Common.{sym, ap, subst}
use Rattle.schedule.specs.declared.state.Core.{Core}
use Rattle.schedule.specs.Standing.{setup_of}
use Rattle.publishing.specs.Following.{Follows, IsOutlookAfter}
use Rattle.publishing.proofs.FollowLemmas.{outlook_told}
use Rattle.publishing.proofs.snapshot.Snapshot.outlook.Goals as goal

pub returns : goal.returns
returns c =
    let rows = c.self.inside.seen.seen.log in
    let user = c.args.user.now in
    rw (← c.self.view_is) (subst (λ setup. IsOutlookAfter setup rows user c.args.number c.outlook.result) (ap setup_of c.deref.ensures)
    (outlook_told c.deref.result.now rows user c.args.number c.outlook.result
    (subst (λ (core : Core). Follows (setup_of core) core rows) (sym c.deref.ensures) c.self.invariant) c.outlook.ensures))
