use Rattle.std.proofs.Common.{◌+◌, arith}
use Rattle.session.proofs.SessionLemmas.{row-named}
use Rattle.session.proofs.session.Session.begin.Goals as goal

pub returns-clause-ok : goal.returns-clause-ok
returns-clause-ok c =
    let i = c.self.inside in
    rw (← c.self.view_is)
    (row-named i.mode i.begun i.refused i.told.items c.push.new.self.items i.goals.items (c.len-number.result + 1) c.nothing.result
    c.in_ok-push.ensures.items c.nothing.ensures (omega (arith, i.told.ok.0)) c.printed_answer.result c.printed_answer.ensures.text)
