use Rattle.builder.proofs.QueueLemmas.{puts}
use Rattle.builder.proofs.queue.put.Goals as goal

pub send_as-requires-clause-rule : goal.send_as-requires-clause-rule
send_as-requires-clause-rule g c = (puts _ _ _ _ c.requires.keeps, λ _ _ _ _. tt)
