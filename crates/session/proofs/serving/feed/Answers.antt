use Rattle.std.proofs.Common.{refl, sym, subst, [], ◌∷◌, ◌++◌}
use Rattle.std.proofs.lemmas.List.{append-nil}
use Rattle.session.proofs.RowLemmas.{err-is}
use Rattle.model.specs.declared.refusal.Refusal.TheVariants.{Memory}
use Rattle.session.specs.Serving.{Link, Progress, EndedEarly}
use Rattle.session.proofs.ProgressLemmas.{progress-held, early-here, by_memory}
use Rattle.session.proofs.FeedLemmas.{cut-line, cut-rest, piece-all, piece-line, input-line, piece-rest}
use Rattle.session.proofs.serving.feed.Goals as goal

pub loop-line-init : goal.loop-line-init
loop-line-init g c = (
  [],
  refl,
  λ mode first blank input p.
      subst (λ t. Progress mode (Link g.A.Answer.answers g.A.Answer.waited) first c.args.answer.now blank
      (g.W.Write.contents c.args.writer.now) t c.args.ongoing.now.session.now c.args.ongoing.now.held.items) (sym (append-nil input)) p,
)

pub returns-in_err-hold-clause-err : goal.returns-in_err-hold-clause-err
returns-in_err-hold-clause-err g c =
    let i = c.loop-line.invariant in
    err-is _ _ _ c.from_residual.ensures.1 (λ mode first blank input p.
    subst (λ t. EndedEarly mode (Link g.A.Answer.answers g.A.Answer.waited) first c.loop-line.answer blank (g.W.Write.contents c.loop-line.writer) t ⊥ Memory)
    (piece-all input i.0 c.loop-line.rest.now c.args.piece.now i.1)
    (early-here (Link g.A.Answer.answers g.A.Answer.waited) first blank c.loop-line.answer (g.W.Write.contents c.loop-line.writer)
    (input ++ i.0) c.loop-line.ongoing.session.now c.loop-line.ongoing.held.items
    c.loop-line.rest.now _ (by_memory _ refl) (i.2 mode first blank input p)))

pub returns-in_err-end_line-clause-err : goal.returns-in_err-end_line-clause-err
returns-in_err-end_line-clause-err g c =
    let i = c.loop-line.invariant in
    let line = c.in-Some.line.now in
    let after = c.in-Some.after.now in
    let cut = cut-line c.loop-line.rest.now line after c.in-Some.ensures.parts in
    err-is _ _ _ c.from_residual-in_err-end_line.ensures.1 (λ mode first blank input p.
    subst (λ t. EndedEarly mode (Link g.A.Answer.answers g.A.Answer.waited) first c.end_line.new.answer blank
    (g.W.Write.contents c.end_line.new.writer) t ⊥ c.in_err-end_line.field-0.0)
    (piece-line input i.0 line c.loop-line.rest.now c.args.piece.now after i.1 cut.0)
    (c.in_err-end_line.ensures.err after mode first blank ((input ++ i.0) ++ line)
    (progress-held (Link g.A.Answer.answers g.A.Answer.waited) first blank c.loop-line.answer (g.W.Write.contents c.loop-line.writer)
    (input ++ i.0) c.loop-line.ongoing.session.now c.loop-line.ongoing.held.items line
    c.hold.new.held.items (i.2 mode first blank input p) cut.1 c.in_ok-hold.ensures)))

pub loop-line-preserved : goal.loop-line-preserved
loop-line-preserved g c =
    let i = c.loop-line.invariant in
    let line = c.in-Some.line.now in
    let after = c.in-Some.after.now in
    let cut = cut-line c.loop-line.rest.now line after c.in-Some.ensures.parts in (
      i.0 ++ (line ++ 10 ∷ []),
      piece-rest i.0 line c.loop-line.rest.now c.args.piece.now after i.1 cut.0,
      λ mode first blank input p.
          subst (λ t. Progress mode (Link g.A.Answer.answers g.A.Answer.waited) first c.end_line.new.answer blank
          (g.W.Write.contents c.end_line.new.writer) t c.end_line.new.ongoing.session.now
          c.end_line.new.ongoing.held.items) (input-line input i.0 line)
          (c.in_ok-end_line.ensures.ok mode first blank ((input ++ i.0) ++ line)
          (progress-held (Link g.A.Answer.answers g.A.Answer.waited) first blank c.loop-line.answer (g.W.Write.contents c.loop-line.writer)
          (input ++ i.0) c.loop-line.ongoing.session.now c.loop-line.ongoing.held.items line
          c.hold.new.held.items (i.2 mode first blank input p) cut.1 c.in_ok-hold.ensures)),
    )

pub returns-in_err-hold-2-clause-err : goal.returns-in_err-hold-2-clause-err
returns-in_err-hold-2-clause-err g c =
    let i = c.loop-line.invariant in
    err-is _ _ _ c.from_residual-in_err-hold-2.ensures.1 (λ mode first blank input p.
    subst (λ t. EndedEarly mode (Link g.A.Answer.answers g.A.Answer.waited) first c.loop-line.answer blank (g.W.Write.contents c.loop-line.writer) t ⊥ Memory)
    (piece-all input i.0 c.loop-line.rest.now c.args.piece.now i.1)
    (early-here (Link g.A.Answer.answers g.A.Answer.waited) first blank c.loop-line.answer (g.W.Write.contents c.loop-line.writer)
    (input ++ i.0) c.loop-line.ongoing.session.now c.loop-line.ongoing.held.items
    c.loop-line.rest.now _ (by_memory _ refl) (i.2 mode first blank input p)))

pub returns-clause-ok : goal.returns-clause-ok
returns-clause-ok g c =
    let i = c.loop-line.invariant in
    λ mode first blank input p.
    subst (λ t. Progress mode (Link g.A.Answer.answers g.A.Answer.waited) first c.loop-line.answer blank
    (g.W.Write.contents c.loop-line.writer) t c.loop-line.ongoing.session.now c.hold-2.new.held.items)
    (piece-all input i.0 c.loop-line.rest.now c.args.piece.now i.1)
    (progress-held (Link g.A.Answer.answers g.A.Answer.waited) first blank c.loop-line.answer (g.W.Write.contents c.loop-line.writer)
    (input ++ i.0) c.loop-line.ongoing.session.now c.loop-line.ongoing.held.items
    c.loop-line.rest.now c.hold-2.new.held.items (i.2 mode first blank input p)
    (cut-rest c.loop-line.rest.now c.in_default.ensures.parts) c.in_ok-hold-2.ensures)
