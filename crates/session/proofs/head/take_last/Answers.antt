use Rattle.std.proofs.Common.{◌≡◌, ◌∙◌, ◌<◌, sym, subst, [], ◌∷◌, ◌++◌, length}
use Rattle.session.specs.Serving.{Progress, Finished}
use Rattle.session.specs.Heads.{Idle}
use Rattle.session.proofs.RowLemmas.{err-is}
use Rattle.session.proofs.ProgressLemmas.{finished, lines-closed, early-closed}
use Rattle.session.proofs.HeadLemmas.{head-goes}
use Rattle.session.proofs.head.take_last.Goals as goal

pub returns-then-not-is_begun-clause-ok : goal.returns-then-not-is_begun-clause-ok
returns-then-not-is_begun-clause-ok g c = λ mode first blank input p.
    let none : c.args.held.now.items ≡ [] = sym c.as_slice.ensures.value ∙ (rw c.if-not-is_begun.true at c.is_begun.ensures) in
    finished Idle first blank tt (g.W.Write.contents c.args.writer.now) input c.args.session.now
    (subst (λ t. Progress mode Idle first tt blank (g.W.Write.contents c.args.writer.now) input c.args.session.now t) none p)

pub returns-in_err-_users-clause-err : goal.returns-in_err-_users-clause-err
returns-in_err-_users-clause-err g c =
    err-is _ _ _ c.from_residual.ensures.1 (λ mode first blank input p.
    let some : 0 < length c.args.held.now.items = rw c.as_slice.ensures.value at (rw c.if-not-is_begun.false at c.is_begun.ensures) in
    early-closed Idle first tt blank (g.W.Write.contents c.answer_line.new.writer) input c.in_err-_users.field-0.0
    (lines-closed Idle first blank tt (g.W.Write.contents c.args.writer.now) input c.args.session.now c.args.held.now.items p some)
    (c.in_err-_users.ensures.err [] mode first blank input p))

pub returns-clause-ok : goal.returns-clause-ok
returns-clause-ok g c = λ mode first blank input p.
    let some : 0 < length c.args.held.now.items = rw c.as_slice.ensures.value at (rw c.if-not-is_begun.false at c.is_begun.ensures) in
    let goes = head-goes _ _ _ _ _ c.in_ok-_users._users c.in_ok-_users.ensures.ok in
    subst (λ t. Finished mode Idle first tt blank (g.W.Write.contents c.answer_line.new.writer) t)
    (lines-closed Idle first blank tt (g.W.Write.contents c.args.writer.now) input c.args.session.now c.args.held.now.items p some)
    (finished Idle first blank tt (g.W.Write.contents c.answer_line.new.writer) (input ++ 10 ∷ []) c.answer_line.new.session (goes mode first blank input p))
