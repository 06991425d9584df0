use Rattle.std.proofs.Common.{◌≡◌, ◌++◌, drop}
use Rattle.std.specs.Prelude.{filter_map}
use Rattle.model.specs.Resolutions.{class_at}
use Rattle.classes.proofs.inputs.input_classes.Given as goal

abbrev pub invariant-loop-path : goal.invariant-loop-path
invariant-loop-path l =
    l.classes.items ++ filter_map (class_at l.known) (drop l.path-index l.path-items) ≡ filter_map (class_at l.known) l.path-items
