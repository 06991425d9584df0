use Rattle.std.proofs.Common.{refl, inl}
use Rattle.std.proofs.lemmas.Result.{IfOk-weaker}
use Rattle.model.specs.Talk.{Silent, Names, Refuses}
use Rattle.session.proofs.RowLemmas.{on_err}
use Rattle.session.proofs.SessionLemmas.{gives-row}
use Rattle.session.proofs.session.Session.answer.Goals as goal

pub returns-in-Silent-clause-ok : goal.returns-in-Silent-clause-ok
returns-in-Silent-clause-ok g c =
    gives-row g.A.Answer.answers g.A.Answer.waited c.args.reading Silent c.args.self.now c.pass_over.new.self c.args.answer.now c.pass_over.result
    (rw c.in-Silent.is refl) refl c.pass_over.ensures.ok

pub returns-in-Silent-clause-err : goal.returns-in-Silent-clause-err
returns-in-Silent-clause-err g c = on_err _ (inl refl)

pub returns-in-Names-clause-ok : goal.returns-in-Names-clause-ok
returns-in-Names-clause-ok g c =
    gives-row g.A.Answer.answers g.A.Answer.waited c.args.reading (Names c.in-Names._users.items) c.args.self.now c.begin.new.self c.args.answer.now c.begin.result
    (rw c.in-Names.is refl) refl (IfOk-weaker c.begin.result _ _ (λ text row. row c.in-Names._users.items) c.begin.ensures.ok)

pub returns-in-Names-clause-err : goal.returns-in-Names-clause-err
returns-in-Names-clause-err g c = on_err _ (inl refl)

pub returns-in-Refuses-clause-ok : goal.returns-in-Refuses-clause-ok
returns-in-Refuses-clause-ok g c =
    gives-row g.A.Answer.answers g.A.Answer.waited c.args.reading (Refuses c.in-Refuses.why) c.args.self.now c.refuse.new.self c.args.answer.now c.refuse.result
    (rw c.in-Refuses.is refl) refl c.refuse.ensures.ok

pub returns-in-Refuses-clause-err : goal.returns-in-Refuses-clause-err
returns-in-Refuses-clause-err g c = on_err _ (inl refl)

pub returns-in-Asks-clause-ok : goal.returns-in-Asks-clause-ok
returns-in-Asks-clause-ok g c = rw c.in-Asks.is c.ask.ensures.ok

pub returns-in-Asks-clause-err : goal.returns-in-Asks-clause-err
returns-in-Asks-clause-err g c = rw c.in-Asks.is c.ask.ensures.err

pub returns-in-Waits-clause-ok : goal.returns-in-Waits-clause-ok
returns-in-Waits-clause-ok g c = rw c.in-Waits.is c.wait.ensures.ok

pub returns-in-Waits-clause-err : goal.returns-in-Waits-clause-err
returns-in-Waits-clause-err g c = rw c.in-Waits.is c.wait.ensures.err
