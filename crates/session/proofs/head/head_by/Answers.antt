use Rattle.std.proofs.Common.{refl, sym, ap, ◌∙◌, subst, [], ◌++◌, append_assoc, Some}
use Rattle.std.proofs.lemmas.List.{append-nil}
use Rattle.model.specs.declared.refusal.Refusal.TheVariants.{Memory}
use Rattle.session.specs.Serving.{EndedEarly}
use Rattle.session.specs.Heads.{Idle}
use Rattle.session.proofs.RowLemmas.{err-is, consumes-none, consumes-more, consumes-end}
use Rattle.session.proofs.ProgressLemmas.{progress-none, progress-flushed, early-here, early-weakened, by_memory, more_not_users}
use Rattle.session.proofs.head.head_by.Goals as goal

pub loop-init : goal.loop-init
loop-init g c = ([], consumes-none _, rw c.requires.0 refl, rw (c.requires.1, c.requires.0) (progress-none Idle tt (g.W.Write.contents c.args.writer.now)))

pub returns-in_err-n-clause-err : goal.returns-in_err-n-clause-err
returns-in_err-n-clause-err g c =
    let i = c.loop.invariant in
    let shown = progress-flushed Idle tt (g.W.Write.contents c.args.writer.now) _ _ _ _ _ _ i.3 c.in_err-n.ensures.kept in
    err-is _ _ _ c.from_residual.ensures.1 (
      i.0,
      consumes-end _ _ _ i.0 [] 0 refl i.1 c.in_err-n.ensures.err,
      early-weakened _ _ _ _ _ _ _ _ _ (λ b. absurd b)
          (subst (λ t. EndedEarly c.args.session.now.mode Idle tt tt (g.W.Write.contents c.args.writer.now) (g.W.Write.contents c.read_more.new.writer) t ⊥ c.in_err-n.field-0.0)
          (append-nil i.0)
          (early-here Idle tt (g.W.Write.contents c.args.writer.now) _ _ i.0 _ _ [] c.in_err-n.field-0.0 (more_not_users _ _ _ _ _ c.in_err-n.ensures.fault) shown)),
    )

pub returns-in_err-n-clause-failed : goal.returns-in_err-n-clause-failed
returns-in_err-n-clause-failed g c =
    let i = c.loop.invariant in
    let shown = progress-flushed Idle tt (g.W.Write.contents c.args.writer.now) _ _ _ _ _ _ i.3 c.in_err-n.ensures.kept in
    err-is _ _ _ c.from_residual.ensures.1 (λ e. (i.0, consumes-end _ _ _ i.0 [] 0 refl i.1 c.in_err-n.ensures.err, shown.so_far))

pub loop-preserved-in_default : goal.loop-preserved-in_default
loop-preserved-in_default g c =
    let i = c.loop.invariant in
    let shown = progress-flushed Idle tt (g.W.Write.contents c.args.writer.now) _ _ _ _ _ _ i.3 c.in_ok-n.ensures.kept in
    let s = rw c.in_default.is at c.in_ok-n.ensures.ok in
    (i.0, consumes-end _ _ _ i.0 [] 0 refl i.1 s, i.2, shown)

pub returns-in_err-take_last-clause-err : goal.returns-in_err-take_last-clause-err
returns-in_err-take_last-clause-err g c =
    let i = c.loop.invariant in
    let shown = progress-flushed Idle tt (g.W.Write.contents c.args.writer.now) _ _ _ _ _ _ i.3 c.in_ok-n.ensures.kept in
    let s = rw c.in-Some.is at c.in_ok-n.ensures.ok in
    err-is _ _ _ c.from_residual-in_err-take_last.ensures.1 (
      i.0,
      consumes-end _ _ _ i.0 _ c.in-Some.n c.if-n-eq0.true i.1 s.1,
      early-weakened _ _ _ _ _ _ _ _ _ (λ t. s.2 c.if-n-eq0.true)
          (c.in_err-take_last.ensures.err c.args.session.now.mode tt (g.W.Write.contents c.args.writer.now) i.0 shown),
    )

pub returns-then-n-eq0-clause-ok : goal.returns-then-n-eq0-clause-ok
returns-then-n-eq0-clause-ok g c =
    let i = c.loop.invariant in
    let shown = progress-flushed Idle tt (g.W.Write.contents c.args.writer.now) _ _ _ _ _ _ i.3 c.in_ok-n.ensures.kept in
    let s = rw c.in-Some.is at c.in_ok-n.ensures.ok in (
      i.0,
      consumes-end _ _ _ i.0 _ c.in-Some.n c.if-n-eq0.true i.1 s.1,
      (s.2 c.if-n-eq0.true, c.in_ok-take_last.ensures.ok c.args.session.now.mode tt (g.W.Write.contents c.args.writer.now) i.0 shown),
    )

pub returns-in_err-found-clause-err : goal.returns-in_err-found-clause-err
returns-in_err-found-clause-err g c =
    let i = c.loop.invariant in
    let shown = progress-flushed Idle tt (g.W.Write.contents c.args.writer.now) _ _ _ _ _ _ i.3 c.in_ok-n.ensures.kept in
    let s = rw c.in-Some.is at c.in_ok-n.ensures.ok in
    let piece = c.split_at.result.0.now in
    err-is _ _ _ c.from_residual-in_err-found.ensures.1 (
      i.0 ++ piece,
      consumes-more _ _ _ i.0 piece i.1 (rw c.split_at.ensures.front s.1),
      early-weakened _ _ _ _ _ _ _ _ _ (λ b. absurd b)
          (c.in_err-found.ensures.err c.args.session.now.mode tt (g.W.Write.contents c.args.writer.now) i.0 shown),
    )

pub returns-in-Some-2-clause-ok : goal.returns-in-Some-2-clause-ok
returns-in-Some-2-clause-ok g c =
    let i = c.loop.invariant in
    let shown = progress-flushed Idle tt (g.W.Write.contents c.args.writer.now) _ _ _ _ _ _ i.3 c.in_ok-n.ensures.kept in
    let s = rw c.in-Some.is at c.in_ok-n.ensures.ok in
    let piece = c.split_at.result.0.now in
    let f = rw c.in-Some-2.is at c.in_ok-found.ensures.ok in (
      i.0 ++ piece,
      consumes-more _ _ _ i.0 piece i.1 (rw c.split_at.ensures.front s.1),
      record {
        front = i.0 ++ f.front;
        cut = ap (λ t. i.0 ++ t) f.cut ∙ sym (append_assoc i.0 f.front c.in-Some-2.found.rest.items);
        progress = f.goes c.args.session.now.mode tt (g.W.Write.contents c.args.writer.now) i.0 shown;
        names = f.names c.args.session.now.mode (g.W.Write.contents c.args.writer.now) i.0 shown;
      },
    )

pub loop-preserved : goal.loop-preserved
loop-preserved g c =
    let i = c.loop.invariant in
    let shown = progress-flushed Idle tt (g.W.Write.contents c.args.writer.now) _ _ _ _ _ _ i.3 c.in_ok-n.ensures.kept in
    let s = rw c.in-Some.is at c.in_ok-n.ensures.ok in
    let piece = c.split_at.result.0.now in
    let f = rw c.in_default-2.is at c.in_ok-found.ensures.ok in (
      i.0 ++ piece,
      consumes-more _ _ _ i.0 piece i.1 (rw c.split_at.ensures.front s.1),
      f.0,
      f.1 c.args.session.now.mode tt (g.W.Write.contents c.args.writer.now) i.0 shown,
    )

pub returns-clause-err : goal.returns-clause-err
returns-clause-err g c =
    let i = c.loop.invariant in (
      i.0,
      i.1,
      early-weakened _ _ _ _ _ _ _ _ _ (λ b. absurd b)
          (subst (λ t. EndedEarly c.args.session.now.mode Idle tt tt (g.W.Write.contents c.args.writer.now) (g.W.Write.contents c.loop.writer) t ⊥ Memory)
          (append-nil i.0)
          (early-here Idle tt (g.W.Write.contents c.args.writer.now) _ _ i.0 _ _ [] _ (by_memory _ refl) i.3)),
    )

pub returns-then-n-eq0-clause-whole : goal.returns-then-n-eq0-clause-whole
returns-then-n-eq0-clause-whole g c = λ none. rw (← c.failures-reader_before.ensures) ((rw c.in-Some.is at c.in_ok-n.ensures.whole) (ap Some c.if-n-eq0.true))
