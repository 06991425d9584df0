use Rattle.std.proofs.Common.{◌≡◌, ◌+◌, ◌++◌, drop, map}
use Rattle.realise.specs.Held.{paths_held, charged_beside}
use Rattle.realise.specs.Holdings.{archive_of}
use Rattle.realise.proofs.holding.Holding.charged_beside.Given as goal

abbrev pub invariant-loop-entry : goal.invariant-loop-entry
invariant-loop-entry l =
    let held = paths_held l.fn.self.archives in
    l.more + charged_beside (map archive_of (drop l.entry-index l.entries)) (held ++ l.counted.keys) ≡ charged_beside (map archive_of l.entries) held
