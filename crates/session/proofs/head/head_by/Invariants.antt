use Rattle.std.proofs.Common.{◌≡◌, List, ℕ, false}
use Rattle.std.specs.Io.KnownBytes.{Consumes}
use Rattle.session.specs.Serving.{Progress}
use Rattle.session.specs.Heads.{Idle}
use Rattle.session.proofs.head.head_by.Given as goal

-- what was read so far, in which nobody is named, and how far the session has come with it
abbrev pub invariant-loop : goal.invariant-loop
invariant-loop g l = (input : List ℕ) × Consumes (g.R.Read.remaining l.fn.reader) (g.R.Read.remaining l.reader) input × (l.session.begun ≡ false)
    × Progress l.fn.session.mode Idle tt tt (g.W.Write.contents l.fn.writer) (g.W.Write.contents l.writer) input l.session l.held.items
