use Rattle.builder.proofs.QueueLemmas.{gives}
use Rattle.builder.proofs.queue.give_out.Goals as goal

pub another-requires-clause-rule : goal.another-requires-clause-rule
another-requires-clause-rule g = gives _ _ g.requires.keeps g.requires.none
