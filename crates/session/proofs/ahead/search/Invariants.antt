use Rattle.std.specs.Io.KnownBytes.{Consumes}
use Rattle.session.specs.Ahead.{Searched}
use Rattle.session.proofs.ahead.search.Given as goal

-- what was read is kept, and its lines that have ended name no users
abbrev pub invariant-loop : goal.invariant-loop
invariant-loop g l = Consumes (g.R.Read.remaining l.fn.reader) (g.R.Read.remaining l.reader) l.bytes.items × Searched l.fn.session.mode l.bytes.items l.session l.held.items
