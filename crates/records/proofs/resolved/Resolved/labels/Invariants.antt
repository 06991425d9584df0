use Rattle.std.proofs.Common.{◌≡◌, ◌++◌, drop, map}
use Rattle.model.specs.Endings.{label_of_entry}
use Rattle.records.proofs.resolved.Resolved.labels.Given as goal

abbrev pub invariant-loop-entry : goal.invariant-loop-entry
invariant-loop-entry l = l.labels.items ++ map label_of_entry (drop l.entry-index l.self.closure) ≡ map label_of_entry l.self.closure
