use Rattle.std.proofs.Common.{inl, inr}
use Rattle.std.proofs.lemmas.Result.{err_from_is_err_and}
use Rattle.resolving.specs.Resolving.{served_with, path_in}
use Rattle.repair.proofs.TurnLemmas.{each_none, each_step, each_stop}
use Rattle.resolving.proofs.served.all_served_by.Goals as goal

pub loop-class-init : goal.loop-class-init
loop-class-init c = each_none (served_with (path_in c.args.paths.now.entries)) c.new-served.result.items c.new-served.ensures.items

pub returns-in_err-served_by : goal.returns-in_err-served_by
returns-in_err-served_by c =
    let p = err_from_is_err_and c.from_residual.result c.from_residual.ensures.1 in
    rw (p.1, p.2) (elim c.in_err-served_by.ensures [
      | inl memory ↦ inl memory
      | inr why ↦
          inr (each_stop (served_with (path_in c.args.paths.now.entries)) c.args.classes.now c.loop-class.class-index c.class-item.result
          c.loop-class.served.items c.in_err-served_by.field-0.0 c.loop-class-test.true c.class-item.is c.loop-class.invariant why)
    ])

pub loop-class-preserved : goal.loop-class-preserved
loop-class-preserved c =
    each_step (served_with (path_in c.args.paths.now.entries)) c.args.classes.now c.loop-class.class-index c.class-item.result c.loop-class.served.items
    c.push.new.self.items c.in_ok-served_by.field-0 c.loop-class-test.true c.class-item.is c.loop-class.invariant c.in_ok-served_by.ensures
    c.in_ok-push.ensures.items
