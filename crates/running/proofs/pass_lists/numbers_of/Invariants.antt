use Rattle.std.specs.Prelude.{◌≡◌, map, take}
use Rattle.running.proofs.pass_lists.numbers_of.Given as goal

-- those of the sessions so far
abbrev pub invariant-loop-session : goal.invariant-loop-session
invariant-loop-session g l = l.numbers.items ≡ map (λ session. session.store.caller.number) (take l.session-index l.served_sessions)
