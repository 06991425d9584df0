use Rattle.std.proofs.Common.{[]}
use Rattle.std.specs.Io.KnownBytes.{Appends}
use Rattle.session.proofs.streams.flush.Given as goal

-- nothing is written
abbrev pub invariant-loop : goal.invariant-loop
invariant-loop g l = Appends (g.W.Write.contents l.fn.writer) (g.W.Write.contents l.writer) []
