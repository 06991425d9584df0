use Rattle.std.proofs.Common.{rules, [], ◌∷◌, sym, ◌∙◌}
use Rattle.events.specs.declared.event.Request.TheVariants.{Start}
use Rattle.builder.specs.Working.{asking}
use Rattle.builder.proofs.WorkLemmas.{starts_more, starts_last}
use Rattle.builder.proofs.tasks.start.Goals as goal

pub returns-then-leads_own : goal.returns-then-leads_own
returns-then-leads_own g c = (
  (asking c.in-Ok.actor (Start c.args.number), c.call-reply.result) ∷ c.build.ensures.0,
  starts_more g.S.Store.called g.S.Store.asked g.Q.Runner.gives c.args.user.now c.args.number c.in-Ok.actor c.in-Ok-clone.leader c.call-reply.result c.build.ensures.0 c.args.store.now c.call-reply.new.self c.args.runner.now
      c.build.result c.build.new.store c.build.new.runner (search rules) c.call-reply.ensures (sym c.leads_own.ensures ∙ c.if-leads_own.true) (search rules) c.build.ensures.1,
)

pub returns-else-leads_own : goal.returns-else-leads_own
returns-else-leads_own g c = (
  (asking c.in-Ok.actor (Start c.args.number), c.call-reply.result) ∷ [],
  starts_last g.S.Store.called g.S.Store.asked g.Q.Runner.gives c.args.user.now c.args.number c.in-Ok.actor c.call-reply.result c.args.store.now c.call-reply.new.self c.args.runner.now
      c.met_by.result (search rules) c.call-reply.ensures (sym c.leads_own.ensures ∙ c.if-leads_own.false) c.met_by.ensures,
)
