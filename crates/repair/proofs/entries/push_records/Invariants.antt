use Rattle.std.proofs.Common.{◌≡◌, ◌++◌, map}
use Rattle.model.specs.Worlds.{OfRecord}
use Rattle.repair.specs.Served.{values_of}
use Rattle.repair.proofs.entries.push_records.Given as goal

abbrev pub invariant-loop-realisation : goal.invariant-loop-realisation
invariant-loop-realisation l =
    l.entries.items ++ map OfRecord l.realisation-iterator ≡ l.fn.entries.items ++ map OfRecord (values_of l.fn.served.entries)
