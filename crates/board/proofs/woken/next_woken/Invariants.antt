use Rattle.std.proofs.Common.{length}
use Rattle.board.specs.Rows.{CoversWoken}
use Rattle.board.proofs.woken.next_woken.Given as goal

abbrev pub invariant-loop-place : goal.invariant-loop-place
invariant-loop-place l = CoversWoken l.seat l.goals l.woken

abbrev pub decreases-loop-place : goal.decreases-loop-place
decreases-loop-place l = length l.woken.places
