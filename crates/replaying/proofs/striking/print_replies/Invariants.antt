use Rattle.std.proofs.Common.{drop}
use Rattle.replaying.proofs.PrintLemmas.{printed_of, Written}
use Rattle.replaying.proofs.striking.print_replies.Given as goal

-- the replies so far are printed, and the rest is left
abbrev pub invariant-loop-actor : goal.invariant-loop-actor
invariant-loop-actor g l =
    Written l.fn.user (printed_of l.fn.user l.fn.numbers l.fn.replies) (g.W.Write.contents l.fn.writer) (g.W.Write.contents l.writer) l.left
    (drop l.actor-index l.replies)
