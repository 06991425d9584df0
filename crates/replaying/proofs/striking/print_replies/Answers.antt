use Rattle.std.proofs.Common.{rules}
use Rattle.session.proofs.RowLemmas.{on_err}
use Rattle.replaying.proofs.PrintLemmas.{passed_over, one_printed, one_in_part, all_printed, part_printed}
use Rattle.replaying.proofs.striking.print_replies.Goals as goal

pub loop-actor-preserved-then-ne : goal.loop-actor-preserved-then-ne
loop-actor-preserved-then-ne g c =
    passed_over c.args.user.now _ _ c.args.replies.now c.loop-actor.actor-index c.loop-actor-item.result c.loop-actor-test.true c.loop-actor-item.is
    _ c.loop-actor.left.now (search rules) c.loop-actor.invariant

pub returns-in_err-text-clause-err : goal.returns-in_err-text-clause-err
returns-in_err-text-clause-err g c = on_err c.from_residual.result (part_printed c.args.user.now _ _ _ c.loop-actor.left.now _ c.loop-actor.invariant)

pub returns-in_err-write_whole-clause-err : goal.returns-in_err-write_whole-clause-err
returns-in_err-write_whole-clause-err g c =
    let part = c.in_err-write_whole.ensures.err in
    on_err c.from_residual-in_err-write_whole.result
    (one_in_part c.args.user.now _ _ c.args.replies.now c.loop-actor.actor-index c.loop-actor-item.result c.loop-actor-test.true c.loop-actor-item.is
    _ _ c.in-Some.number.now c.loop-actor.left.now c.in-Some.later.now _ (search rules) (search rules) (search rules) c.loop-actor.invariant part.0 part.1 part.2)

pub loop-actor-preserved : goal.loop-actor-preserved
loop-actor-preserved g c =
    one_printed c.args.user.now _ _ c.args.replies.now c.loop-actor.actor-index c.loop-actor-item.result c.loop-actor-test.true c.loop-actor-item.is
    _ _ c.in-Some.number.now c.loop-actor.left.now c.in-Some.later.now _ (search rules) (search rules) (search rules) c.loop-actor.invariant
    c.in_ok-write_whole.ensures.ok

pub returns-clause-ok : goal.returns-clause-ok
returns-clause-ok g c =
    all_printed c.args.user.now _ _ c.args.replies.now c.loop-actor.actor-index _ c.loop-actor.left.now (search rules) c.loop-actor.invariant
