use Rattle.std.proofs.Common.{◌≡◌, ◌++◌, take, map}
use Rattle.model.specs.Resolutions.{Served}
use Rattle.resolving.proofs.sources.push_served.Given as goal

abbrev pub invariant-loop-one : goal.invariant-loop-one
invariant-loop-one l = l.paths.items ≡ l.initial.paths.items ++ map (λ (s : Served). s.path) (take l.one-index l.served)
