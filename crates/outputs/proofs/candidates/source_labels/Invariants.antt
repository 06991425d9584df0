use Rattle.std.proofs.Common.{◌≡◌, map, take}
use Rattle.std.specs.Prelude.{filter}
use Rattle.model.specs.Classes.{is_one_of}
use Rattle.records.specs.Ordered.{source_label}
use Rattle.outputs.proofs.candidates.source_labels.Given as goal

abbrev pub invariant-loop-path : goal.invariant-loop-path
invariant-loop-path l = l.labels.items ≡ map source_label (filter (is_one_of l.sources) (take l.path-index l.paths))
