use Rattle.std.proofs.Common.{◌≡◌, false, List, [], ◌++◌, refl, sym, ap, ◌∙◌, subst}
use Rattle.crossbeam_channel.specs.Claims.{view}
use Rattle.builder.specs.declared.queue.QueueEnd.{QueueEnd}
use Rattle.builder.specs.declared.ticket.Ticket.{Ticket}
use Rattle.builder.specs.Queue.{consumer}
use Rattle.builder.specs.Tickets.{has_stop, StopsLast}
use Rattle.builder.specs.Working.{nothing_met, Works}
use Rattle.builder.proofs.WorkLemmas.{works_push, works_stop, has_goal, has_last, last_stop, last_none, took_still, took_taken}
use Rattle.builder.proofs.worker.work.Goals as goal

pub loop-init : goal.loop-init
loop-init g c =
    let none = c.requires.none in let empty = sym (ap (λ (h : QueueEnd). h.taken) none) in
    let w = c.args.worker.now in (
      c.requires.seat,
      none ∙ ap (λ (ts : List Ticket). consumer (view c.args.consumer.now).number ts) empty,
      ([], subst (λ (ts : List Ticket). Works g.S.Store.called g.S.Store.asked g.Q.Runner.gives ts nothing_met [] w c.nothing-met.result w) empty (refl, refl, c.nothing-met.ensures)),
      subst (λ (ts : List Ticket). has_stop ts ≡ false) empty refl,
    )

pub returns-in-Some-Stop-clause-took : goal.returns-in-Some-Stop-clause-took
returns-in-Some-Stop-clause-took g c = took_still (view c.args.consumer.now) (view c.loop.consumer) (view c.take.new.consumer) _ c.loop.invariant.1 c.in-Some-Stop.ensures.took

pub returns-in-Some-Stop-clause-works : goal.returns-in-Some-Stop-clause-works
returns-in-Some-Stop-clause-works g c = (
  c.loop.invariant.2.0,
  subst (λ (ts : List Ticket). Works g.S.Store.called g.S.Store.asked g.Q.Runner.gives ts nothing_met c.loop.invariant.2.0 c.args.worker.now c.loop.met c.loop.worker)
      (took_taken (view c.loop.consumer) (view c.take.new.consumer) _ _ c.in-Some-Stop.field-0-is c.in-Some-Stop.ensures.took)
      (works_stop g.S.Store.called g.S.Store.asked g.Q.Runner.gives (view c.loop.consumer).taken nothing_met c.loop.invariant.2.0 c.args.worker.now c.loop.met c.loop.worker c.loop.invariant.2.1),
)

pub returns-in-Some-Stop-clause-stop : goal.returns-in-Some-Stop-clause-stop
returns-in-Some-Stop-clause-stop g c =
    sym (has_last (view c.loop.consumer).taken)
    ∙ ap has_stop (took_taken (view c.loop.consumer) (view c.take.new.consumer) _ _ c.in-Some-Stop.field-0-is c.in-Some-Stop.ensures.took)

pub returns-in-Some-Stop-clause-last : goal.returns-in-Some-Stop-clause-last
returns-in-Some-Stop-clause-last g c =
    subst (λ (ts : List Ticket). StopsLast ts)
    (took_taken (view c.loop.consumer) (view c.take.new.consumer) _ _ c.in-Some-Stop.field-0-is c.in-Some-Stop.ensures.took)
    (last_stop (view c.loop.consumer).taken c.loop.invariant.3)

pub loop-preserved : goal.loop-preserved
loop-preserved g c =
    let one = took_taken (view c.loop.consumer) (view c.take.new.consumer) _ _ c.in-Some-Goal.field-0-is c.in-Some-Goal.ensures.took in
    let calls = c.loop.invariant.2.0 in let more = c.deal-met.ensures.0 in (
      c.in-Some-Goal.ensures.seat,
      took_still (view c.args.consumer.now) (view c.loop.consumer) (view c.take.new.consumer) _ c.loop.invariant.1 c.in-Some-Goal.ensures.took,
      (
        calls ++ more,
        subst (λ (ts : List Ticket). Works g.S.Store.called g.S.Store.asked g.Q.Runner.gives ts nothing_met (calls ++ more) c.args.worker.now c.deal-met.result c.deal-met.new.worker)
            one
            (works_push g.S.Store.called g.S.Store.asked g.Q.Runner.gives (view c.loop.consumer).taken _ nothing_met calls more c.args.worker.now c.loop.met c.loop.worker c.deal-met.result c.deal-met.new.worker c.loop.invariant.2.1 c.deal-met.ensures.1),
      ),
      subst (λ (ts : List Ticket). has_stop ts ≡ false) one (has_goal (view c.loop.consumer).taken _ _ c.loop.invariant.3),
    )

pub returns-in-None-take-clause-last : goal.returns-in-None-take-clause-last
returns-in-None-take-clause-last g c =
    subst (λ (h : QueueEnd). StopsLast h.taken) (sym c.in-None-take.ensures.took) (last_none (view c.loop.consumer).taken c.loop.invariant.3)
