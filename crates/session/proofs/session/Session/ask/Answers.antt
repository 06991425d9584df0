use Rattle.std.proofs.Common.{◌+◌, inr, arith}
use Rattle.std.proofs.lemmas.Result.{err_from_is_err_and}
use Rattle.session.proofs.SessionLemmas.{gives-asked, asked-part}
use Rattle.session.proofs.session.Session.ask.Goals as goal

pub returns-in_err-answered-clause-err : goal.returns-in_err-answered-clause-err
returns-in_err-answered-clause-err g c =
    let q = err_from_is_err_and c.from_residual.result c.from_residual.ensures.1 in
    rw q.1 (asked-part g.A.Answer.answers g.A.Answer.waited c.args.self.now.goals c.args.event c.args.answer.now c.ask.new.answer c.in_err-answered.ensures.err)

pub returns-in_err-push-clause-err : goal.returns-in_err-push-clause-err
returns-in_err-push-clause-err g c =
    let q = err_from_is_err_and c.from_residual-in_err-push.result c.from_residual-in_err-push.ensures.1 in
    let a = c.in_ok-answered.ensures.ok in
    rw q.1 (asked-part g.A.Answer.answers g.A.Answer.waited c.args.self.now.goals c.args.event c.args.answer.now c.ask.new.answer (inr (a.0, a.2)))

pub returns-in_err-add_goal-clause-err : goal.returns-in_err-add_goal-clause-err
returns-in_err-add_goal-clause-err g c =
    let q = err_from_is_err_and c.from_residual-in_err-add_goal.result c.from_residual-in_err-add_goal.ensures.1 in
    let a = c.in_ok-answered.ensures.ok in
    rw q.1 (asked-part g.A.Answer.answers g.A.Answer.waited c.args.self.now.goals c.args.event c.args.answer.now c.ask.new.answer (inr (a.0, a.2)))

pub returns-clause-ok : goal.returns-clause-ok
returns-clause-ok g c =
    let i = c.self.inside in
    let a = c.in_ok-answered.ensures.ok in
    rw (← c.self.view_is)
    (gives-asked g.A.Answer.answers g.A.Answer.waited i.mode i.begun i.refused i.told.items c.push.new.self.items i.goals.items c.add_goal.new.goals.items
    c.in_ok-answered.answered.text (c.len.result + 1) c.args.event a.0 c.in_ok-answered.answered.told c.in_ok-answered.answered.goal
    c.args.answer.now c.ask.new.answer c.in_ok-push.ensures.items a.1.0 c.in_ok-add_goal.ensures a.1.1 (omega (arith, i.told.ok.0)) a.1.2 a.2)
