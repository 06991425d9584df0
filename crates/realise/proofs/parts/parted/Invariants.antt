use Rattle.std.proofs.Common.{◌≡◌, ◌++◌, map}
use Rattle.std.specs.Vec.Iter.{into_iter_items}
use Rattle.realise.specs.Holdings.{bare, archive_of, sources_in, records_in}
use Rattle.realise.proofs.parts.parted.Given as goal

abbrev pub invariant-loop-entry : goal.invariant-loop-entry
invariant-loop-entry l = record {
  sources : l.parts.sources.items ++ sources_in (bare (into_iter_items l.entry-iterator)) ≡ sources_in (bare l.fn.entries.items);
  records : l.parts.records.items ++ records_in (bare (into_iter_items l.entry-iterator)) ≡ records_in (bare l.fn.entries.items);
  archives : l.parts.archives.items ++ map archive_of (into_iter_items l.entry-iterator) ≡ map archive_of l.fn.entries.items;
}
