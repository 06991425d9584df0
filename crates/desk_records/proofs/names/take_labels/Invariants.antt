use Rattle.std.proofs.Common.{◌≡◌, ◌-◌, ℕ, List, drop}
use Rattle.desk_records.specs.Counted.{count_under, names_among}
use Rattle.desk_records.proofs.names.take_labels.Given as goal

abbrev pub invariant-loop-label : goal.invariant-loop-label
invariant-loop-label l =
    (class path : List ℕ) → count_under class path l.names.entries - names_among (drop l.label-index l.labels) class path l.one
    ≡ count_under class path l.initial.names.entries - names_among l.labels class path l.one
