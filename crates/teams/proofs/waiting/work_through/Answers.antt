use Rattle.std.proofs.Common.{◌≡◌, ◌∙◌, ap, subst}
use Rattle.teams.specs.Sessions.{Handed, PutsFor}
use Rattle.teams.proofs.WaitLemmas.{puts_none, puts_more}
use Rattle.teams.proofs.waiting.work_through.Goals as goal

pub loop-init : goal.loop-init
loop-init g c = (g.met.S.Meet.met_none c.args.store.now, puts_none c.args.goals.now c.args.builders.now.put, λ i. c.args.builders.now.has_told)

pub loop-preserved : goal.loop-preserved
loop-preserved g c = (
  g.met.S.Meet.met_more c.args.store.now c.loop.store c.do_task.new.store c.loop.invariant.0 c.do_task.ensures.met,
  puts_more c.args.goals.now c.args.builders.now.put c.loop.builders.put c.do_task.new.builders.put c.loop.invariant.1
      (subst (λ (h : Handed). PutsFor c.args.goals.now h.put c.do_task.new.builders.put) c.next_task.ensures.handed c.do_task.ensures.put),
  c.do_task.ensures.told ∙ ap (λ (h : Handed). h.has_told) c.next_task.ensures.handed ∙ c.loop.invariant.2,
)

pub returns-in_err-do_task-clause-met : goal.returns-in_err-do_task-clause-met
returns-in_err-do_task-clause-met g c =
    g.met.S.Meet.met_more c.args.store.now c.loop.store c.do_task.new.store c.loop.invariant.0 c.do_task.ensures.met

pub returns-in_err-do_task-clause-put : goal.returns-in_err-do_task-clause-put
returns-in_err-do_task-clause-put g c =
    puts_more c.args.goals.now c.args.builders.now.put c.loop.builders.put c.do_task.new.builders.put c.loop.invariant.1
    (subst (λ (h : Handed). PutsFor c.args.goals.now h.put c.do_task.new.builders.put) c.next_task.ensures.handed c.do_task.ensures.put)

pub returns-in_err-do_task-clause-told : goal.returns-in_err-do_task-clause-told
returns-in_err-do_task-clause-told g c = c.do_task.ensures.told ∙ ap (λ (h : Handed). h.has_told) c.next_task.ensures.handed ∙ c.loop.invariant.2
