use Rattle.std.specs.Prelude.{◌≡◌, length}
use Rattle.running.specs.ServedSessions.{AreFirst, AreSessionsFor, session_passes}
use Rattle.running.proofs.ServedSessionLemmas.{left_behind}
use Rattle.running.proofs.pass_lists.sessions_for.Given as goal

-- each file so far has its session, and so many passes are left
abbrev pub invariant-loop-part : goal.invariant-loop-part
invariant-loop-part g l =
    AreFirst l.passes.items × AreSessionsFor (session_passes (length l.fn.passes.items) l.yielded) l.yielded l.served_sessions.items
    × (length l.passes.items ≡ left_behind (length l.fn.passes.items) l.yielded)
