use Rattle.std.proofs.Common.{◌≡◌, drop}
use Rattle.model.specs.Closures.{path_for}
use Rattle.handlers.proofs.taking.path_for.Given as goal

abbrev pub invariant-loop-entry : goal.invariant-loop-entry
invariant-loop-entry l = path_for l.class (drop l.entry-index l.entries) ≡ path_for l.class l.entries
