use Rattle.journal.specs.LogFile.{Cut}
use Rattle.journal.proofs.Moments.{changed, changed_synced}
use Rattle.journal.proofs.Torn.{cut_same}
use Rattle.journal.proofs.synced.cut_synced.Goals as goal

pub returns-in_err-cut-clause-any_moment : goal.returns-in_err-cut-clause-any_moment
returns-in_err-cut-clause-any_moment g c = λ h1.
    let h0 = c.cut.ensures.honest h1 in
    let old = c.args.file.now in
    let file = g.D.LogFile.seen old in
    let n = c.args.len in
    changed g.D.LogFile.moment g.D.LogFile.left_since g.D.LogFile.may_leave (Cut n) file old c.cut.new.self (cut_same n file (c.requires.place h0))
    (g.met.D.LogFile.only_now old) (c.requires.durable h0) c.cut.ensures.crash c.cut.ensures.time

pub returns-clause-any_moment : goal.returns-clause-any_moment
returns-clause-any_moment g c = λ h2.
    let h1 = c.sync.ensures.honest h2 in
    let h0 = c.cut.ensures.honest h1 in
    let old = c.args.file.now in
    let file = g.D.LogFile.seen old in
    let n = c.args.len in
    let written = changed g.D.LogFile.moment g.D.LogFile.left_since g.D.LogFile.may_leave (Cut n) file old c.cut.new.self
    (cut_same n file (c.requires.place h0))
    (g.met.D.LogFile.only_now old) (c.requires.durable h0) c.cut.ensures.crash c.cut.ensures.time in
    changed_synced g.D.LogFile.moment g.D.LogFile.left_since g.D.LogFile.may_leave (Cut n) file old c.cut.new.self c.sync.new.self written
    (c.requires.durable h0) c.cut.ensures.crash c.sync.ensures.crash c.sync.ensures.time
