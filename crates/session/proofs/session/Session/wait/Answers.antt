use Rattle.std.proofs.Common.{◌+◌, ◌∙◌, ap, arith}
use Rattle.std.proofs.lemmas.Result.{err_from_is_err_and}
use Rattle.model.specs.Talk.{Seen}
use Rattle.session.proofs.SessionLemmas.{gives-waited, waited-part}
use Rattle.session.proofs.session.Session.wait.Goals as goal

pub returns-in_err-text-clause-err : goal.returns-in_err-text-clause-err
returns-in_err-text-clause-err g c =
    let q = err_from_is_err_and c.from_residual.result c.from_residual.ensures.1 in
    rw q.1 (waited-part g.A.Answer.answers g.A.Answer.waited c.args.self.now.goals c.as_slice.result.now c.args.answer.now c.wait.new.answer
    (c.as_slice.ensures.value ∙ ap (λ (s : Seen). s.goals) c.self.view_is) c.wait.ensures.waited)

pub returns-in_err-push-clause-err : goal.returns-in_err-push-clause-err
returns-in_err-push-clause-err g c =
    let q = err_from_is_err_and c.from_residual-in_err-push.result c.from_residual-in_err-push.ensures.1 in
    rw q.1 (waited-part g.A.Answer.answers g.A.Answer.waited c.args.self.now.goals c.as_slice.result.now c.args.answer.now c.wait.new.answer
    (c.as_slice.ensures.value ∙ ap (λ (s : Seen). s.goals) c.self.view_is) c.wait.ensures.waited)

pub returns-clause-ok : goal.returns-clause-ok
returns-clause-ok g c =
    let i = c.self.inside in
    let a = c.in_ok-text.ensures.ok in
    rw (← c.self.view_is)
    (gives-waited g.A.Answer.answers g.A.Answer.waited i.mode i.begun i.refused i.told.items c.push.new.self.items i.goals.items c.as_slice.result.now
    c.in_ok-text.text (c.len.result + 1) a.0 c.nothing.result c.args.answer.now c.wait.new.answer
    c.in_ok-push.ensures.items c.nothing.ensures c.as_slice.ensures.value (omega (arith, i.told.ok.0)) a.1 a.2 a.3)
