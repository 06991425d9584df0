use Rattle.std.proofs.Common.{◌≡◌, take}
use Rattle.std.specs.Prelude.{filter}
use Rattle.desk_records.specs.RecordLists.{is_record_of}
use Rattle.outputs.proofs.StepLemmas.{joined}
use Rattle.outputs.proofs.below.records_of.Given as goal

abbrev pub invariant-loop-class : goal.invariant-loop-class
invariant-loop-class l = l.found.items ≡ joined (λ c. filter (is_record_of c) l.desk.records) (take l.class-index l.classes.keys)
