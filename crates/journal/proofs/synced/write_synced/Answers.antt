use Rattle.std.proofs.Common.{length}
use Rattle.journal.specs.LogFile.{Torn}
use Rattle.journal.proofs.Moments.{changed, changed_synced}
use Rattle.journal.proofs.Torn.{torn_same}
use Rattle.journal.proofs.synced.write_synced.Goals as goal

pub returns-in_err-write_at-clause-any_moment : goal.returns-in_err-write_at-clause-any_moment
returns-in_err-write_at-clause-any_moment g c = λ h1.
    let h0 = c.write_at.ensures.honest h1 in
    let old = c.args.file.now in
    let file = g.D.LogFile.seen old in
    let at = c.args.at in
    let n = length c.args.bytes.now in
    changed g.D.LogFile.moment g.D.LogFile.left_since g.D.LogFile.may_leave (Torn at n) file old c.write_at.new.self (torn_same at n file)
    (g.met.D.LogFile.only_now old) (c.requires.durable h0) c.write_at.ensures.crash c.write_at.ensures.time

pub returns-clause-any_moment : goal.returns-clause-any_moment
returns-clause-any_moment g c = λ h2.
    let h1 = c.sync.ensures.honest h2 in
    let h0 = c.write_at.ensures.honest h1 in
    let old = c.args.file.now in
    let file = g.D.LogFile.seen old in
    let at = c.args.at in
    let n = length c.args.bytes.now in
    let written = changed g.D.LogFile.moment g.D.LogFile.left_since g.D.LogFile.may_leave (Torn at n) file old c.write_at.new.self (torn_same at n file)
    (g.met.D.LogFile.only_now old) (c.requires.durable h0) c.write_at.ensures.crash c.write_at.ensures.time in
    changed_synced g.D.LogFile.moment g.D.LogFile.left_since g.D.LogFile.may_leave (Torn at n) file old c.write_at.new.self c.sync.new.self written
    (c.requires.durable h0) c.write_at.ensures.crash c.sync.ensures.crash c.sync.ensures.time
