use Rattle.std.specs.Prelude.{◌≡◌, drop}
use Rattle.teams.specs.Asked.{session_of}
use Rattle.teams.proofs.asked.session_of.Given as goal

-- those behind tell the same as all
abbrev pub invariant-loop-session : goal.invariant-loop-session
invariant-loop-session l = session_of (drop l.session-index l.sessions) l.pass ≡ session_of l.sessions l.pass
