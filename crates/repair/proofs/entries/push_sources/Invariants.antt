use Rattle.std.proofs.Common.{◌≡◌, ◌++◌, take, map}
use Rattle.model.specs.Worlds.{OfSource}
use Rattle.repair.proofs.entries.push_sources.Given as goal

abbrev pub invariant-loop-source : goal.invariant-loop-source
invariant-loop-source l = l.entries.items ≡ l.fn.entries.items ++ map OfSource (take l.source-index l.sources)
