use Rattle.std.proofs.Common.{◌≡◌, ◌++◌, drop}
use Rattle.resolving.proofs.sources.push_paths.Given as goal

abbrev pub invariant-loop-path : goal.invariant-loop-path
invariant-loop-path l = l.paths.items ++ drop l.path-index l.sources ≡ l.initial.paths.items ++ l.sources
