use Rattle.std.proofs.Common.{length}
use Rattle.builder.proofs.serving.+serve.Given as goal

abbrev pub decreases-serve : goal.decreases-serve
decreases-serve g l = length l.workers.now.left.items
