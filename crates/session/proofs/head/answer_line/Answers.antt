use Rattle.std.proofs.Common.{inr, refl, ◌∙◌, sym, ◌∷◌}
use Rattle.session.specs.Serving.{Link}
use Rattle.session.specs.Heads.{Idle}
use Rattle.session.proofs.RowLemmas.{err-is}
use Rattle.session.proofs.SessionLemmas.{part-gets, line-gives}
use Rattle.session.proofs.HeadLemmas.{idle-gives, idle-stops, head-line}
use Rattle.session.proofs.ProgressLemmas.{early-here, early-memory, early-write, early-refused, progress-write, by_memory, by_output}
use Rattle.session.proofs.ProgressLemmas.{own_memory, own_output, memory_not_output, users_not_output}
use Rattle.session.proofs.head.answer_line.Goals as goal

pub returns-in_err-reading-clause-err : goal.returns-in_err-reading-clause-err
returns-in_err-reading-clause-err g c = err-is _ _ _ c.from_residual.ensures.1 (λ more mode first blank input p.
    early-here Idle first blank tt (g.W.Write.contents c.args.writer.now) input c.args.session.now c.args.held.now.items
    (10 ∷ more) _ (by_memory _ c.in_err-reading.ensures.memory) p)

pub returns-in_err-users-clause-err : goal.returns-in_err-users-clause-err
returns-in_err-users-clause-err g c = err-is _ _ _ c.from_residual-in_err-users.ensures.1 (λ more mode first blank input p.
    early-here Idle first blank tt (g.W.Write.contents c.args.writer.now) input c.args.session.now c.args.held.now.items
    (10 ∷ more) _ (by_memory _ refl) p)

pub returns-in_err-text-clause-err : goal.returns-in_err-text-clause-err
returns-in_err-text-clause-err g c = err-is _ _ _ c.from_residual-in_err-text.ensures.1 (λ more mode first blank input p.
    let L = Link g.A.Answer.answers g.A.Answer.waited in
    early-memory Idle first blank tt tt
    (g.W.Write.contents c.args.writer.now) input c.args.session.now c.args.held.now.items c.as_slice.result.now more _
    (by_memory _ c.in_err-text.ensures.memory) c.as_slice.ensures.value p
    (idle-stops L c.args.session.now c.as_slice.result.now c.args.nobody.now c.answer.new.answer c.requires
    (part-gets L c.args.session.now c.as_slice.result.now c.in_ok-reading.reading c.args.nobody.now c.answer.new.answer
    c.in_ok-reading.ensures.read c.in_err-text.ensures.err)))

pub returns-in_err-write-clause-err : goal.returns-in_err-write-clause-err
returns-in_err-write-clause-err g c = err-is _ _ _ c.from_residual-in_err-write.ensures.1 (λ more mode first blank input p.
    let L = Link g.A.Answer.answers g.A.Answer.waited in
    early-write Idle first blank tt tt (g.W.Write.contents c.args.writer.now)
    (g.W.Write.contents c.write.new.writer) input c.args.session.now c.answer.new.self c.args.held.now.items c.as_slice.result.now
    c.in_ok-text.text c.in_ok-text.text more _
    (by_output _ c.in_err-write.ensures.errors) c.as_slice.ensures.value refl
    (idle-gives L c.args.session.now c.answer.new.self c.as_slice.result.now c.args.nobody.now c.answer.new.answer c.in_ok-text.text c.requires
    (line-gives L c.args.session.now c.as_slice.result.now c.in_ok-reading.reading c.args.nobody.now c.answer.new.self
    c.answer.new.answer c.in_ok-text.text c.in_ok-reading.ensures.read c.in_ok-text.ensures.ok))
    p c.in_err-write.ensures.err)

pub returns-then-is_refused-clause-err : goal.returns-then-is_refused-clause-err
returns-then-is_refused-clause-err g c = λ more mode first blank input p.
    let L = Link g.A.Answer.answers g.A.Answer.waited in
    early-refused Idle first blank tt tt (g.W.Write.contents c.args.writer.now)
    (g.W.Write.contents c.write.new.writer) input c.args.session.now c.answer.new.self c.args.held.now.items c.as_slice.result.now
    c.in_ok-text.text c.in_ok-text.text more _ c.as_slice.ensures.value refl
    (idle-gives L c.args.session.now c.answer.new.self c.as_slice.result.now c.args.nobody.now c.answer.new.answer c.in_ok-text.text c.requires
    (line-gives L c.args.session.now c.as_slice.result.now c.in_ok-reading.reading c.args.nobody.now c.answer.new.self
    c.answer.new.answer c.in_ok-text.text c.in_ok-reading.ensures.read c.in_ok-text.ensures.ok))
    p c.in_ok-write.ensures.ok (sym c.is_refused.ensures ∙ c.if-is_refused.true) refl

pub returns-clause-ok : goal.returns-clause-ok
returns-clause-ok g c =
    let L = Link g.A.Answer.answers g.A.Answer.waited in
    let seen = c.args.session.now in
    let line = c.as_slice.result.now in
    let gives = line-gives L seen line c.in_ok-reading.reading c.args.nobody.now c.answer.new.self
    c.answer.new.answer c.in_ok-text.text c.in_ok-reading.ensures.read c.in_ok-text.ensures.ok in
    head-line seen c.answer.new.self c.args.held.now.items line (g.W.Write.contents c.args.writer.now) (g.W.Write.contents c.write.new.writer)
    c.in_ok-reading.reading c.in_ok-users.users c.requires c.as_slice.ensures.value c.in_ok-reading.ensures.read c.in_ok-users.ensures
    (c.in_ok-text.ensures.ok).0 (c.in_ok-text.ensures.ok).1 (c.in_ok-text.ensures.ok).2
    (λ mode first blank input p.
    progress-write Idle first blank tt tt (g.W.Write.contents c.args.writer.now)
    (g.W.Write.contents c.write.new.writer) input seen c.answer.new.self c.args.held.now.items line
    c.in_ok-text.text c.in_ok-text.text c.as_slice.ensures.value refl
    (idle-gives L seen c.answer.new.self line c.args.nobody.now c.answer.new.answer c.in_ok-text.text c.requires gives)
    p c.in_ok-write.ensures.ok (sym c.is_refused.ensures ∙ c.if-is_refused.false))

-- ---- which errors there are, and the faults that they come of

pub returns-in_err-reading-clause-errors : goal.returns-in_err-reading-clause-errors
returns-in_err-reading-clause-errors g c = err-is _ _ _ c.from_residual.ensures.1 (own_memory _ c.in_err-reading.ensures.memory)

pub returns-in_err-reading-clause-fault : goal.returns-in_err-reading-clause-fault
returns-in_err-reading-clause-fault g c = err-is _ _ _ c.from_residual.ensures.1 (memory_not_output _ _ _ c.in_err-reading.ensures.memory)

pub returns-in_err-users-clause-errors : goal.returns-in_err-users-clause-errors
returns-in_err-users-clause-errors g c = err-is _ _ _ c.from_residual-in_err-users.ensures.1 (own_memory _ refl)

pub returns-in_err-users-clause-fault : goal.returns-in_err-users-clause-fault
returns-in_err-users-clause-fault g c = err-is _ _ _ c.from_residual-in_err-users.ensures.1 (memory_not_output _ _ _ refl)

pub returns-in_err-text-clause-errors : goal.returns-in_err-text-clause-errors
returns-in_err-text-clause-errors g c = err-is _ _ _ c.from_residual-in_err-text.ensures.1 (own_memory _ c.in_err-text.ensures.memory)

pub returns-in_err-text-clause-fault : goal.returns-in_err-text-clause-fault
returns-in_err-text-clause-fault g c = err-is _ _ _ c.from_residual-in_err-text.ensures.1 (memory_not_output _ _ _ c.in_err-text.ensures.memory)

pub returns-in_err-write-clause-errors : goal.returns-in_err-write-clause-errors
returns-in_err-write-clause-errors g c = err-is _ _ _ c.from_residual-in_err-write.ensures.1 (own_output _ c.in_err-write.ensures.errors)

pub returns-in_err-write-clause-fault : goal.returns-in_err-write-clause-fault
returns-in_err-write-clause-fault g c = err-is _ _ _ c.from_residual-in_err-write.ensures.1 c.in_err-write.ensures.fault

pub returns-then-is_refused-clause-errors : goal.returns-then-is_refused-clause-errors
returns-then-is_refused-clause-errors g c = inr (inr refl)

pub returns-then-is_refused-clause-fault : goal.returns-then-is_refused-clause-fault
returns-then-is_refused-clause-fault g c = users_not_output _ _ _ refl
