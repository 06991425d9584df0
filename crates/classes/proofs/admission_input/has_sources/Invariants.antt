use Rattle.std.proofs.Common.{◌≡◌, drop}
use Rattle.std.specs.List.{list_all}
use Rattle.model.specs.Classes.{is_one_of}
use Rattle.classes.proofs.admission_input.has_sources.Given as goal

abbrev pub invariant-loop-path : goal.invariant-loop-path
invariant-loop-path l =
    list_all (is_one_of l.known.sources) (drop l.path-index l.sources) ≡ list_all (is_one_of l.known.sources) l.sources
