use Rattle.std.proofs.Common.{rules, subst}
use Rattle.crossbeam_channel.specs.Claims.{Pass, view}
use Rattle.builder.specs.declared.worker.Worker.{Worker}
use Rattle.builder.specs.declared.ticket.Ticket.{Ticket}
use Rattle.builder.specs.declared.queue.QueueEnd.{QueueEnd}
use Rattle.builder.specs.Rounds.{Returned}
use Rattle.builder.proofs.RoundLemmas.{serves_none, serves_more, if_both, pick}
use Rattle.builder.proofs.serving.+serve.Goals as goal

pub returns-in_default-clause-serves : goal.returns-in_default-clause-serves
returns-in_default-clause-serves g t c =
    serves_none g.S.Store.called g.S.Store.asked g.Q.Runner.gives _ _ _ _ _ _ (search rules) c.feed-left.ensures.fed c.new.ensures

pub returns-clause-serves : goal.returns-clause-serves
returns-clause-serves g t c =
    let called = g.S.Store.called in
    let asked = g.S.Store.asked in
    let gives = g.Q.Runner.gives in
    let r = c.start-started.result in
    let b = c.finish-back.result.0 in
    let w = c.in-Some.worker in
    let hand = c.give_out-consumer.result in
    let returned = pick r b
    (λ b. Returned called asked gives w hand b.worker b.consumer b.met b.took_stop)
    (λ h b. Returned called asked gives h.promise.worker.value h.promise.consumer.value b.worker b.consumer b.met b.took_stop)
    (if_both r _ _ _ c.start-started.ensures.worker c.start-started.ensures.consumer
    (λ h ew et k. subst (λ (x : Pass Ticket QueueEnd). Returned called asked gives w x b.worker b.consumer b.met b.took_stop) et
    (subst (λ (x : Worker g.row.S.Denot g.row.Q.Denot). Returned called asked gives x h.promise.consumer.value b.worker b.consumer b.met b.took_stop) ew k)))
    c.start-started.ensures.back
    c.finish-back.ensures.back in
    serves_more called asked gives _ _ c.pop.new.self.items _ _ _ w b.worker _
    (view c.give_out-consumer.new.producer) (view c.serve-left.result.producer) _ hand b.consumer b.met b.took_stop
    c.serve-left.result.tally c.finish-back.result.1 c.in-Some.ensures.items c.give_out-consumer.ensures.out
    c.serve-left.ensures.serves c.give_out-consumer.ensures.consumer returned c.take_back.ensures.back c.push_reserved.ensures.items
    c.finish-back.ensures.whole c.finish-back.ensures.memory
