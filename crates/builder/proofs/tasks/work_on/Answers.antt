use Rattle.std.proofs.Common.{rules, [], ◌∷◌, sym, ◌∙◌}
use Rattle.events.specs.declared.event.Request.TheVariants.{Plan}
use Rattle.builder.specs.Working.{asking}
use Rattle.builder.proofs.WorkLemmas.{works_more, works_last}
use Rattle.builder.proofs.tasks.work_on.Goals as goal

pub returns-then-is_planned : goal.returns-then-is_planned
returns-then-is_planned g c = (
  (asking c.in-Ok.actor (Plan c.args.number), c.call-reply.result) ∷ c.start.ensures.0,
  works_more g.S.Store.called g.S.Store.asked g.Q.Runner.gives c.args.user.now c.args.number c.in-Ok.actor c.call-reply.result c.start.ensures.0 c.args.store.now c.call-reply.new.self c.args.runner.now
      c.start.result c.start.new.store c.start.new.runner (search rules) c.call-reply.ensures (sym c.is_planned.ensures ∙ c.if-is_planned.true) c.start.ensures.1,
)

pub returns : goal.returns
returns g c = (
  (asking c.in-Ok.actor (Plan c.args.number), c.call-reply.result) ∷ [],
  works_last g.S.Store.called g.S.Store.asked g.Q.Runner.gives c.args.user.now c.args.number c.in-Ok.actor c.call-reply.result c.args.store.now c.call-reply.new.self c.args.runner.now
      c.met_by.result (search rules) c.call-reply.ensures (sym c.is_planned.ensures ∙ c.if-is_planned.false) c.met_by.ensures,
)
