use Rattle.std.proofs.Common.{◌≡◌, ◌+◌, ◌≤◌, length, drop}
use Rattle.realise.specs.Holdings.{bare, sources_in, records_in}
use Rattle.handlers.proofs.copying.counts.Given as goal

abbrev pub invariant-loop-entry : goal.invariant-loop-entry
invariant-loop-entry l = record {
  sources : l.sources + length (sources_in (bare (drop l.entry-index l.entries))) ≡ length (sources_in (bare l.entries));
  records : l.records + length (records_in (bare (drop l.entry-index l.entries))) ≡ length (records_in (bare l.entries));
  part : l.sources + l.records ≤ l.entry-index;
}
