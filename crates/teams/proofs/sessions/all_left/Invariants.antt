use Rattle.teams.specs.Sessions.{AllLeave}
use Rattle.teams.proofs.sessions.all_left.Given as goal

-- those so far leave these
abbrev pub invariant-loop-result : goal.invariant-loop-result
invariant-loop-result g l = AllLeave l.yielded l.lefts.items
