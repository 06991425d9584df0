use Rattle.std.proofs.Common.{◌≡◌, ◌∙◌, ◌<◌, sym, subst, [], ◌∷◌, ◌++◌, length}
use Rattle.session.proofs.RowLemmas.{err-is}
use Rattle.session.specs.Serving.{Link, Progress, Finished}
use Rattle.session.proofs.ProgressLemmas.{finished, lines-closed, early-closed}
use Rattle.session.proofs.serving.finish.Goals as goal

pub returns-then-not-is_begun-clause-ok : goal.returns-then-not-is_begun-clause-ok
returns-then-not-is_begun-clause-ok g c = λ mode first blank input p.
    let none : c.args.ongoing.now.held.items ≡ [] = sym c.as_slice.ensures.value ∙ (rw c.if-not-is_begun.true at c.is_begun.ensures) in
    finished (Link g.A.Answer.answers g.A.Answer.waited) first blank c.args.answer.now
    (g.W.Write.contents c.args.writer.now) input c.args.ongoing.now.session.now
    (subst (λ t. Progress mode (Link g.A.Answer.answers g.A.Answer.waited) first c.args.answer.now blank
    (g.W.Write.contents c.args.writer.now) input c.args.ongoing.now.session.now t) none p)

pub returns-in_err-end_line-clause-err : goal.returns-in_err-end_line-clause-err
returns-in_err-end_line-clause-err g c =
    err-is _ _ _ c.from_residual.ensures.1 (λ mode first blank input p.
    let some : 0 < length c.args.ongoing.now.held.items = rw c.as_slice.ensures.value at (rw c.if-not-is_begun.false at c.is_begun.ensures) in
    early-closed (Link g.A.Answer.answers g.A.Answer.waited) first c.end_line.new.answer blank (g.W.Write.contents c.end_line.new.writer) input c.in_err-end_line.field-0.0
    (lines-closed (Link g.A.Answer.answers g.A.Answer.waited) first blank c.args.answer.now
    (g.W.Write.contents c.args.writer.now) input c.args.ongoing.now.session.now c.args.ongoing.now.held.items p some)
    (c.in_err-end_line.ensures.err [] mode first blank input p))

pub returns-clause-ok : goal.returns-clause-ok
returns-clause-ok g c = λ mode first blank input p.
    let some : 0 < length c.args.ongoing.now.held.items = rw c.as_slice.ensures.value at (rw c.if-not-is_begun.false at c.is_begun.ensures) in
    subst (λ t. Finished mode (Link g.A.Answer.answers g.A.Answer.waited) first c.end_line.new.answer blank (g.W.Write.contents c.end_line.new.writer) t)
    (lines-closed (Link g.A.Answer.answers g.A.Answer.waited) first blank c.args.answer.now
    (g.W.Write.contents c.args.writer.now) input c.args.ongoing.now.session.now c.args.ongoing.now.held.items p some)
    (finished (Link g.A.Answer.answers g.A.Answer.waited) first blank c.end_line.new.answer
    (g.W.Write.contents c.end_line.new.writer) (input ++ 10 ∷ []) c.end_line.new.ongoing.session.now
    (subst (λ t. Progress mode (Link g.A.Answer.answers g.A.Answer.waited) first c.end_line.new.answer blank (g.W.Write.contents c.end_line.new.writer)
    (input ++ 10 ∷ []) c.end_line.new.ongoing.session.now t) c.in_ok-end_line.ensures.empty (c.in_ok-end_line.ensures.ok mode first blank input p)))
