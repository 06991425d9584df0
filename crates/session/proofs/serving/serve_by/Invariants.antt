use Rattle.std.proofs.Common.{List, ℕ, ◌++◌}
use Rattle.std.specs.Io.KnownBytes.{Consumes}
use Rattle.session.specs.Serving.{Link, GoesOn}
use Rattle.session.proofs.serving.serve_by.Given as goal

-- what was read so far, and how far the session has come with it
abbrev pub invariant-loop : goal.invariant-loop
invariant-loop g l = (input : List ℕ) × Consumes (g.R.Read.remaining l.fn.reader) (g.R.Read.remaining l.reader) input
    × GoesOn (Link g.A.Answer.answers g.A.Answer.waited) l.fn.answer l.answer (g.W.Write.contents l.fn.writer) (g.W.Write.contents l.writer)
    l.fn.ongoing.session.now l.ongoing.session.now l.fn.ongoing.held.items l.ongoing.held.items (l.before.bytes.now ++ input)
