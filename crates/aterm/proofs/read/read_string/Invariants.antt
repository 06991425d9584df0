use Rattle.std.proofs.Common.{length}
use Rattle.model.specs.DerivationTexts.{quoted_at}
use Rattle.aterm.proofs.PlainRuns.{IsLeft}
use Rattle.aterm.proofs.read.read_string.Given as goal

abbrev pub invariant-loop-at : goal.invariant-loop-at
invariant-loop-at l = IsLeft (quoted_at l.tag l.bytes) l.characters.items l.rest

abbrev pub decreases-loop-at : goal.decreases-loop-at
decreases-loop-at l = length l.rest
