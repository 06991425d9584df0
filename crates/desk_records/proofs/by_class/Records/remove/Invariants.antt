use Rattle.std.proofs.Common.{◌≡◌, length}
use Rattle.desk_records.specs.RecordLists.{remaining}
use Rattle.desk_records.specs.Indexed.{AreInOrder}
use Rattle.desk_records.specs.Numbers.{without_numbers}
use Rattle.desk_records.proofs.by_class.Records.remove.Given as goal

abbrev pub invariant-loop-number : goal.invariant-loop-number
invariant-loop-number l = record {
  in_order : AreInOrder l.self-inside.indexes l.self-inside.list.entries;
  rest : remaining l.class l.path (without_numbers l.self-inside.list.entries) ≡ remaining l.class l.path l.fn.self;
}

abbrev pub decreases-loop-number : goal.decreases-loop-number
decreases-loop-number l = length (without_numbers l.self-inside.list.entries)
