use Rattle.std.specs.Prelude.{◌≡◌}
use Rattle.teams.specs.Sessions.{PutsFor}
use Rattle.teams.proofs.waiting.work_through.Given as goal

-- the store has met others, and tickets for some of the goals were put
abbrev pub invariant-loop : goal.invariant-loop
invariant-loop g l =
    g.S.Meet.met l.fn.store l.store
    × PutsFor l.goals l.fn.builders.put l.builders.put
    × (l.builders.has_told ≡ l.fn.builders.has_told)
