use Rattle.builder.proofs.QueueLemmas.{merges}
use Rattle.builder.proofs.queue.take_back.Goals as goal

pub absorb-requires-clause-rule : goal.absorb-requires-clause-rule
absorb-requires-clause-rule g = merges _ _ _ _ g.requires.keeps g.requires.takes g.requires.last
