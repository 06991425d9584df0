use Rattle.std.proofs.Common.{◌≡◌, ◌+◌, ℕ, List, take}
use Rattle.desk_records.specs.Counted.{count_under, names_among}
use Rattle.desk_records.proofs.names.add_labels.Given as goal

abbrev pub invariant-loop-count : goal.invariant-loop-count
invariant-loop-count l =
    (class path : List ℕ) → count_under class path l.names.entries
    ≡ count_under class path l.initial.names.entries + names_among (take l.count l.labels) class path l.one
