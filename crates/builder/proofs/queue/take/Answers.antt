use Rattle.builder.proofs.QueueLemmas.{takes}
use Rattle.builder.proofs.queue.take.Goals as goal

pub recv_as-requires-clause-rule : goal.recv_as-requires-clause-rule
recv_as-requires-clause-rule g c = (takes _ _ c.requires.takes, λ _ _ _ _. tt)
