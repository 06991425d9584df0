use Rattle.builder.proofs.QueueLemmas.{learns}
use Rattle.builder.proofs.queue.count.Goals as goal

pub learn_as-requires-clause-rule : goal.learn_as-requires-clause-rule
learn_as-requires-clause-rule g = learns _ _ g.requires.keeps
