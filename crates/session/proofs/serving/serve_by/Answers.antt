use Rattle.std.proofs.Common.{inr, refl, sym, ap, subst, [], ◌++◌, Some}
use Rattle.std.proofs.lemmas.List.{append-nil}
use Rattle.model.specs.declared.refusal.Refusal.TheVariants.{Memory}
use Rattle.session.specs.Serving.{Link, EndedEarly}
use Rattle.session.proofs.RowLemmas.{err-is, consumes-none, consumes-more, consumes-end}
use Rattle.session.proofs.ProgressLemmas.{early-here, early-weakened, by_memory, goes-nowhere, goes-flushed, goes-further, ends-further}
use Rattle.session.proofs.ProgressLemmas.{more_not_users, more_errors, more_input, more_output}
use Rattle.session.proofs.ProgressLemmas.{own_memory, memory_not_input, memory_not_output, own_not_input, own_read}
use Rattle.session.proofs.serving.serve_by.Goals as goal

pub returns-in_err-feed-clause-err : goal.returns-in_err-feed-clause-err
returns-in_err-feed-clause-err g c =
    err-is _ _ _ c.from_residual.ensures.1 (
      [],
      consumes-none _,
      λ mode first blank input p. early-weakened _ _ _ _ _ _ _ _ _ (λ b. absurd b)
          (subst (λ t. EndedEarly mode (Link g.A.Answer.answers g.A.Answer.waited) first c.feed.new.answer blank (g.W.Write.contents c.feed.new.writer) (input ++ t) ⊥ c.in_err-feed.field-0.0)
          (sym (append-nil c.args.before.now.bytes.now)) (c.in_err-feed.ensures.err mode first blank input p)),
    )

pub loop-init : goal.loop-init
loop-init g c =
    ([], consumes-none _, goes-nowhere (Link g.A.Answer.answers g.A.Answer.waited) _ _ _ _ _ _ _ _ c.args.before.now.bytes.now c.in_ok-feed.ensures.ok)

pub returns-in_err-n-clause-err : goal.returns-in_err-n-clause-err
returns-in_err-n-clause-err g c =
    let i = c.loop.invariant in
    let L = Link g.A.Answer.answers g.A.Answer.waited in
    let shown = goes-flushed L _ _ _ _ _ _ _ _ _ _ i.2 c.in_err-n.ensures.kept in
    err-is _ _ _ c.from_residual-in_err-n.ensures.1 (
      i.0,
      consumes-end _ _ _ i.0 [] 0 refl i.1 c.in_err-n.ensures.err,
      λ mode first blank input p. early-weakened _ _ _ _ _ _ _ _ _ (λ b. absurd b)
          (subst (λ t. EndedEarly mode L first c.loop.answer blank (g.W.Write.contents c.read_more.new.writer) t ⊥ c.in_err-n.field-0.0)
          (append-nil (input ++ (c.args.before.now.bytes.now ++ i.0)))
          (early-here L first blank _ _ (input ++ (c.args.before.now.bytes.now ++ i.0)) _ _ [] c.in_err-n.field-0.0
          (more_not_users _ _ _ _ _ c.in_err-n.ensures.fault) (shown mode first blank input p))),
    )

pub returns-in_err-n-clause-failed : goal.returns-in_err-n-clause-failed
returns-in_err-n-clause-failed g c =
    let i = c.loop.invariant in
    let shown = goes-flushed (Link g.A.Answer.answers g.A.Answer.waited) _ _ _ _ _ _ _ _ _ _ i.2 c.in_err-n.ensures.kept in
    err-is _ _ _ c.from_residual-in_err-n.ensures.1 (λ e.
    (i.0, consumes-end _ _ _ i.0 [] 0 refl i.1 c.in_err-n.ensures.err, λ mode first blank input p. (shown mode first blank input p).so_far))

pub returns-in_err-finish-clause-err : goal.returns-in_err-finish-clause-err
returns-in_err-finish-clause-err g c =
    let i = c.loop.invariant in
    let s = rw c.in-Some.is at c.in_ok-n.ensures.ok in
    let shown = goes-flushed (Link g.A.Answer.answers g.A.Answer.waited) _ _ _ _ _ _ _ _ _ _ i.2 c.in_ok-n.ensures.kept in
    err-is _ _ _ c.from_residual-in_err-finish.ensures.1 (
      i.0,
      consumes-end _ _ _ i.0 _ c.in-Some.n c.if-n-eq0.true i.1 s.1,
      λ mode first blank input p. early-weakened _ _ _ _ _ _ _ _ _ (λ t. s.2 c.if-n-eq0.true)
          (c.in_err-finish.ensures.err mode first blank (input ++ (c.args.before.now.bytes.now ++ i.0)) (shown mode first blank input p)),
    )

pub returns-then-n-eq0-clause-ok : goal.returns-then-n-eq0-clause-ok
returns-then-n-eq0-clause-ok g c =
    let i = c.loop.invariant in
    let shown = goes-flushed (Link g.A.Answer.answers g.A.Answer.waited) _ _ _ _ _ _ _ _ _ _ i.2 c.in_ok-n.ensures.kept in
    let s = rw c.in-Some.is at c.in_ok-n.ensures.ok in (
      i.0,
      consumes-end _ _ _ i.0 _ c.in-Some.n c.if-n-eq0.true i.1 s.1,
      s.2 c.if-n-eq0.true,
      λ mode first blank input p. c.in_ok-finish.ensures.ok mode first blank
          (input ++ (c.args.before.now.bytes.now ++ i.0)) (shown mode first blank input p),
    )

pub returns-in_err-feed-2-clause-err : goal.returns-in_err-feed-2-clause-err
returns-in_err-feed-2-clause-err g c =
    let i = c.loop.invariant in
    let s = rw c.in-Some.is at c.in_ok-n.ensures.ok in
    let piece = c.split_at.result.0.now in
    let shown = goes-flushed (Link g.A.Answer.answers g.A.Answer.waited) _ _ _ _ _ _ _ _ _ _ i.2 c.in_ok-n.ensures.kept in
    err-is _ _ _ c.from_residual-in_err-feed-2.ensures.1 (
      i.0 ++ piece,
      consumes-more _ _ _ i.0 piece i.1 (rw c.split_at.ensures.front s.1),
      ends-further (Link g.A.Answer.answers g.A.Answer.waited) _ _ _ _ _ _ _ _ _ _
          c.args.before.now.bytes.now i.0 piece _ _ shown c.in_err-feed-2.ensures.err,
    )

pub loop-preserved-in_default : goal.loop-preserved-in_default
loop-preserved-in_default g c =
    let i = c.loop.invariant in
    let s = rw c.in_default.is at c.in_ok-n.ensures.ok in
    let shown = goes-flushed (Link g.A.Answer.answers g.A.Answer.waited) _ _ _ _ _ _ _ _ _ _ i.2 c.in_ok-n.ensures.kept in
    (i.0, consumes-end _ _ _ i.0 [] 0 refl i.1 s, shown)

pub loop-preserved : goal.loop-preserved
loop-preserved g c =
    let i = c.loop.invariant in
    let shown = goes-flushed (Link g.A.Answer.answers g.A.Answer.waited) _ _ _ _ _ _ _ _ _ _ i.2 c.in_ok-n.ensures.kept in
    let s = rw c.in-Some.is at c.in_ok-n.ensures.ok in
    let piece = c.split_at.result.0.now in (
      i.0 ++ piece,
      consumes-more _ _ _ i.0 piece i.1 (rw c.split_at.ensures.front s.1),
      goes-further (Link g.A.Answer.answers g.A.Answer.waited) _ _ _ _ _ _ _ _ _ _ _ _
          c.args.before.now.bytes.now i.0 piece shown c.in_ok-feed-2.ensures.ok,
    )

pub returns-clause-err : goal.returns-clause-err
returns-clause-err g c =
    let i = c.loop.invariant in
    let L = Link g.A.Answer.answers g.A.Answer.waited in (
      i.0,
      i.1,
      λ mode first blank input p. early-weakened _ _ _ _ _ _ _ _ _ (λ b. absurd b)
          (subst (λ t. EndedEarly mode L first c.loop.answer blank (g.W.Write.contents c.loop.writer) t ⊥ Memory)
          (append-nil (input ++ (c.args.before.now.bytes.now ++ i.0)))
          (early-here L first blank _ _ (input ++ (c.args.before.now.bytes.now ++ i.0)) _ _ [] _ (by_memory _ refl) (i.2 mode first blank input p))),
    )

-- ---- which errors there are, and the faults that they come of

pub returns-in_err-feed-clause-failed : goal.returns-in_err-feed-clause-failed
returns-in_err-feed-clause-failed g c = err-is _ _ _ c.from_residual.ensures.1 (λ e. absurd (own_read _ c.in_err-feed.ensures.errors e))

pub returns-in_err-feed-clause-errors : goal.returns-in_err-feed-clause-errors
returns-in_err-feed-clause-errors g c = err-is _ _ _ c.from_residual.ensures.1 (inr c.in_err-feed.ensures.errors)

pub returns-in_err-feed-clause-input_fault : goal.returns-in_err-feed-clause-input_fault
returns-in_err-feed-clause-input_fault g c = err-is _ _ _ c.from_residual.ensures.1 (own_not_input _ _ _ c.in_err-feed.ensures.errors)

pub returns-in_err-feed-clause-output_fault : goal.returns-in_err-feed-clause-output_fault
returns-in_err-feed-clause-output_fault g c =
    err-is _ _ _ c.from_residual.ensures.1 c.in_err-feed.ensures.fault

pub returns-in_err-n-clause-errors : goal.returns-in_err-n-clause-errors
returns-in_err-n-clause-errors g c = err-is _ _ _ c.from_residual-in_err-n.ensures.1 (more_errors _ _ _ _ _ c.in_err-n.ensures.fault)

pub returns-in_err-n-clause-input_fault : goal.returns-in_err-n-clause-input_fault
returns-in_err-n-clause-input_fault g c = err-is _ _ _ c.from_residual-in_err-n.ensures.1 (more_input _ _ _ _ _ c.in_err-n.ensures.fault)

pub returns-in_err-n-clause-output_fault : goal.returns-in_err-n-clause-output_fault
returns-in_err-n-clause-output_fault g c = err-is _ _ _ c.from_residual-in_err-n.ensures.1 (more_output _ _ _ _ _ c.in_err-n.ensures.fault)

pub returns-in_err-finish-clause-failed : goal.returns-in_err-finish-clause-failed
returns-in_err-finish-clause-failed g c = err-is _ _ _ c.from_residual-in_err-finish.ensures.1 (λ e. absurd (own_read _ c.in_err-finish.ensures.errors e))

pub returns-in_err-finish-clause-errors : goal.returns-in_err-finish-clause-errors
returns-in_err-finish-clause-errors g c = err-is _ _ _ c.from_residual-in_err-finish.ensures.1 (inr c.in_err-finish.ensures.errors)

pub returns-in_err-finish-clause-input_fault : goal.returns-in_err-finish-clause-input_fault
returns-in_err-finish-clause-input_fault g c = err-is _ _ _ c.from_residual-in_err-finish.ensures.1 (own_not_input _ _ _ c.in_err-finish.ensures.errors)

pub returns-in_err-finish-clause-output_fault : goal.returns-in_err-finish-clause-output_fault
returns-in_err-finish-clause-output_fault g c =
    err-is _ _ _ c.from_residual-in_err-finish.ensures.1 c.in_err-finish.ensures.fault

pub returns-in_err-feed-2-clause-failed : goal.returns-in_err-feed-2-clause-failed
returns-in_err-feed-2-clause-failed g c = err-is _ _ _ c.from_residual-in_err-feed-2.ensures.1 (λ e. absurd (own_read _ c.in_err-feed-2.ensures.errors e))

pub returns-in_err-feed-2-clause-errors : goal.returns-in_err-feed-2-clause-errors
returns-in_err-feed-2-clause-errors g c = err-is _ _ _ c.from_residual-in_err-feed-2.ensures.1 (inr c.in_err-feed-2.ensures.errors)

pub returns-in_err-feed-2-clause-input_fault : goal.returns-in_err-feed-2-clause-input_fault
returns-in_err-feed-2-clause-input_fault g c = err-is _ _ _ c.from_residual-in_err-feed-2.ensures.1 (own_not_input _ _ _ c.in_err-feed-2.ensures.errors)

pub returns-in_err-feed-2-clause-output_fault : goal.returns-in_err-feed-2-clause-output_fault
returns-in_err-feed-2-clause-output_fault g c =
    err-is _ _ _ c.from_residual-in_err-feed-2.ensures.1 c.in_err-feed-2.ensures.fault

pub returns-clause-failed : goal.returns-clause-failed
returns-clause-failed g c = λ e. absurd (own_read _ (own_memory _ refl) e)

pub returns-clause-errors : goal.returns-clause-errors
returns-clause-errors g c = inr (own_memory _ refl)

pub returns-clause-input_fault : goal.returns-clause-input_fault
returns-clause-input_fault g c = memory_not_input _ _ _ refl

pub returns-clause-output_fault : goal.returns-clause-output_fault
returns-clause-output_fault g c = memory_not_output _ _ _ refl

-- ---- all is answered only where the reader did not fail

pub returns-then-n-eq0-clause-whole : goal.returns-then-n-eq0-clause-whole
returns-then-n-eq0-clause-whole g c = (rw c.in-Some.is at c.in_ok-n.ensures.whole) (ap Some c.if-n-eq0.true)
