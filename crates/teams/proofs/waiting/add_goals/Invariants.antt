use Rattle.teams.proofs.waiting.add_goals.Given as goal

-- the store has met others
abbrev pub invariant-loop-place : goal.invariant-loop-place
invariant-loop-place g l = g.S.Meet.met l.fn.store l.store
