use Rattle.std.proofs.Common.{refl, sym, ap, ◌∙◌, subst, [], ◌∷◌, ◌++◌}
use Rattle.session.specs.Heads.{GoesIdle}
use Rattle.session.proofs.RowLemmas.{err-is}
use Rattle.session.proofs.ProgressLemmas.{by_memory}
use Rattle.session.proofs.FeedLemmas.{cut-line, cut-rest}
use Rattle.session.proofs.HeadLemmas.{idle-none, idle-here, idle-rest, idle-stopped, idle-line, idle-left, idle-names, head-goes}
use Rattle.session.proofs.head.take_piece.Goals as goal

pub loop-line-init : goal.loop-line-init
loop-line-init g c = ([], refl, c.requires, idle-none _ _ _)

pub returns-in_err-hold-clause-err : goal.returns-in_err-hold-clause-err
returns-in_err-hold-clause-err g c =
    let i = c.loop-line.invariant in
    err-is _ _ _ c.from_residual.ensures.1 (idle-here _ _ _ _ _ _ i.0 i.3 c.args.piece.now c.loop-line.rest.now i.1 _ (by_memory _ refl))

pub returns-in_err-users-clause-err : goal.returns-in_err-users-clause-err
returns-in_err-users-clause-err g c =
    let i = c.loop-line.invariant in
    let line = c.in-Some.line.now in
    let after = c.in-Some.after.now in
    let cut = cut-line c.loop-line.rest.now line after c.in-Some.ensures.parts in
    err-is _ _ _ c.from_residual-in_err-users.ensures.1
    (idle-stopped _ _ _ _ _ _ i.0 i.3 c.args.piece.now c.loop-line.rest.now i.1 line after c.hold.new.held.items cut.1 cut.0 c.in_ok-hold.ensures _ _
    (c.in_err-users.ensures.err after))

pub returns-in_err-rest-clause-err : goal.returns-in_err-rest-clause-err
returns-in_err-rest-clause-err g c =
    let i = c.loop-line.invariant in
    let line = c.in-Some.line.now in
    let after = c.in-Some.after.now in
    let cut = cut-line c.loop-line.rest.now line after c.in-Some.ensures.parts in
    let goes = idle-line _ _ _ _ _ _ i.0 i.3 c.args.piece.now c.loop-line.rest.now i.1 line after c.hold.new.held.items cut.1 cut.0 c.in_ok-hold.ensures _ _
    (head-goes _ _ _ _ _ c.in_ok-users.field-0 c.in_ok-users.ensures.ok) in
    let left = idle-left _ _ _ _ _ _ i.0 i.3 c.args.piece.now c.loop-line.rest.now i.1 line after c.hold.new.held.items cut.1 cut.0 c.in_ok-hold.ensures in
    err-is _ _ _ c.from_residual-in_err-rest.ensures.1
    (idle-here _ _ _ _ _ _ (i.0 ++ (line ++ 10 ∷ [])) goes c.args.piece.now after left _ (by_memory _ refl))

pub returns-clause-ok : goal.returns-clause-ok
returns-clause-ok g c =
    let i = c.loop-line.invariant in
    (i.2, idle-rest _ _ _ _ _ _ i.0 i.3 c.args.piece.now c.loop-line.rest.now i.1 c.hold-2.new.held.items (cut-rest c.loop-line.rest.now c.in_default.ensures.parts) c.in_ok-hold-2.ensures)

pub returns-in_err-hold-2-clause-err : goal.returns-in_err-hold-2-clause-err
returns-in_err-hold-2-clause-err g c =
    let i = c.loop-line.invariant in
    err-is _ _ _ c.from_residual-in_err-hold-2.ensures.1 (idle-here _ _ _ _ _ _ i.0 i.3 c.args.piece.now c.loop-line.rest.now i.1 _ (by_memory _ refl))

pub returns-in-Some-2-clause-ok : goal.returns-in-Some-2-clause-ok
returns-in-Some-2-clause-ok g c =
    let i = c.loop-line.invariant in
    let line = c.in-Some.line.now in
    let after = c.in-Some.after.now in
    let cut = cut-line c.loop-line.rest.now line after c.in-Some.ensures.parts in
    let named = rw c.in-Some-2.is at c.in_ok-users.ensures.ok in
    let left = idle-left _ _ _ _ _ _ i.0 i.3 c.args.piece.now c.loop-line.rest.now i.1 line after c.hold.new.held.items cut.1 cut.0 c.in_ok-hold.ensures in
    record {
      front = i.0 ++ (line ++ 10 ∷ []);
      cut = left ∙ ap (λ t. (i.0 ++ (line ++ 10 ∷ [])) ++ t) (sym c.in_ok-rest.ensures.items);
      nothing = c.in_ok-users.ensures.empty;
      goes = idle-line _ _ _ _ _ _ i.0 i.3 c.args.piece.now c.loop-line.rest.now i.1 line after c.hold.new.held.items cut.1 cut.0 c.in_ok-hold.ensures _ _
          named.1;
      names = idle-names _ _ _ _ _ _ i.0 i.3 c.args.piece.now c.loop-line.rest.now i.1 line after c.hold.new.held.items cut.1 cut.0 c.in_ok-hold.ensures
          c.in-Some-2.users.items i.2 named.0;
    }

pub loop-line-preserved : goal.loop-line-preserved
loop-line-preserved g c =
    let i = c.loop-line.invariant in
    let line = c.in-Some.line.now in
    let after = c.in-Some.after.now in
    let cut = cut-line c.loop-line.rest.now line after c.in-Some.ensures.parts in
    let named = rw c.in_default-2.is at c.in_ok-users.ensures.ok in
    let goes = idle-line _ _ _ _ _ _ i.0 i.3 c.args.piece.now c.loop-line.rest.now i.1 line after c.hold.new.held.items cut.1 cut.0 c.in_ok-hold.ensures _ _
    named.1 in (
      i.0 ++ (line ++ 10 ∷ []),
      idle-left _ _ _ _ _ _ i.0 i.3 c.args.piece.now c.loop-line.rest.now i.1 line after c.hold.new.held.items cut.1 cut.0 c.in_ok-hold.ensures,
      named.0,
      subst (λ t. GoesIdle (g.W.Write.contents c.args.writer.now) (g.W.Write.contents c.answer_line.new.writer) c.args.session.now c.answer_line.new.session
          c.args.held.now.items t (i.0 ++ (line ++ 10 ∷ []))) (sym c.in_ok-users.ensures.empty) goes,
    )
