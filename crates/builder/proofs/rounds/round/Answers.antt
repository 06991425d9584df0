use Rattle.std.proofs.Common.{subst}
use Rattle.crossbeam_channel.specs.Claims.{view}
use Rattle.builder.specs.declared.queue.QueueEnd.{QueueEnd}
use Rattle.builder.specs.Queue.{Told}
use Rattle.builder.proofs.TakenLemmas.{is_round}
use Rattle.builder.proofs.rounds.round.Goals as goal

pub returns-clause-round : goal.returns-clause-round
returns-clause-round g c =
    let scope_end = c.in_scope-left.result in
    let told = c.count.ensures.told in
    is_round g.S.Store.called g.S.Store.asked g.Q.Runner.gives _ told.0 c.args.hands.workers.items scope_end.done.items
    _ (view scope_end.producer) scope_end.tally c.in-Ok-ticket_queue.ensures.producer.1 c.in_scope-left.ensures.serves
    (subst (λ (h : QueueEnd). Told h told.0) c.count.ensures.seat.1 told.1)
