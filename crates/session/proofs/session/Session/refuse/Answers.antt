use Rattle.std.proofs.Common.{◌≡◌, ap, ◌||◌, ◌+◌, arith}
use Rattle.model.specs.Talk.{is_bad_users}
use Rattle.session.proofs.SessionLemmas.{row-refused}
use Rattle.session.proofs.session.Session.refuse.Goals as goal

pub returns-clause-ok : goal.returns-clause-ok
returns-clause-ok c =
    let i = c.self.inside in
    let refused : (c.is_bad_users.result || i.refused) ≡ (is_bad_users c.args.why || i.refused) = ap (λ b. b || i.refused) c.is_bad_users.ensures in
    rw (← c.self.view_is)
    (row-refused i.mode i.begun i.refused i.told.items c.push.new.self.items i.goals.items (c.len-number.result + 1) c.nothing.result
    c.in_ok-push.ensures.items c.nothing.ensures (omega (arith, i.told.ok.0)) c.args.why (c.is_bad_users.result || i.refused) c.printed_answer.result refused
    c.printed_answer.ensures.text)
