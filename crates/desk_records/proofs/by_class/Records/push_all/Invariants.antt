use Rattle.std.proofs.Common.{◌≡◌, ◌++◌, take}
use Rattle.std.specs.Vec.Iter.{into_iter_items}
use Rattle.desk_records.proofs.by_class.Records.push_all.Given as goal

abbrev pub invariant-loop-record : goal.invariant-loop-record
invariant-loop-record l = record {
  all : l.self ++ into_iter_items l.record-iterator ≡ l.initial.self ++ l.fn.added.items;
  before : take l.count l.self ≡ l.initial.self;
}
