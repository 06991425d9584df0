use Rattle.std.proofs.Common.{◌≡◌, ◌++◌, ◌≤◌, drop, map}
use Rattle.std.specs.Prelude.{All}
use Rattle.handlers.specs.Taking.{counted, missing_on}
use Rattle.handlers.proofs.copying.missing_on.Given as goal

abbrev pub invariant-loop-entry : goal.invariant-loop-entry
invariant-loop-entry l = record {
  found : l.found.items ++ map counted (missing_on l.desk (drop l.entry-index l.entries)) ≡ map counted (missing_on l.desk l.entries);
  small : All (λ e. e.1 ≤ 67108864) l.found.items;
}
