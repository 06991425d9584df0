use Rattle.std.proofs.Common.{drop}
use Rattle.std.specs.Prelude.{bytes_eq}
use Rattle.model.specs.Worlds.{path_of_entry}
use Rattle.schedule.proofs.HoldingLemmas.{Left}
use Rattle.schedule.proofs.holding.hold_entries.Given as goal

abbrev pub invariant-loop-entry : goal.invariant-loop-entry
invariant-loop-entry l =
    Left (λ q e. bytes_eq (path_of_entry e) q) l.fn.held.keys l.held.keys l.entries (drop l.entry-index l.entries)
