use Rattle.builder.proofs.QueueLemmas.{begins}
use Rattle.builder.proofs.queue.ticket_queue.Goals as goal

pub bounded_with-requires-clause-rule : goal.bounded_with-requires-clause-rule
bounded_with-requires-clause-rule g = begins
