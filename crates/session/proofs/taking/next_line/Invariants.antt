use Rattle.session.proofs.TakingLemmas.{Begun}
use Rattle.session.proofs.taking.next_line.Given as goal

-- of the line begun this was taken
abbrev pub invariant-loop : goal.invariant-loop
invariant-loop g l = Begun (g.R.Read.remaining l.fn.input) (g.R.Read.remaining l.input) l.held.items
