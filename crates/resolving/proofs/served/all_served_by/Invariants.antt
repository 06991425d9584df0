use Rattle.std.proofs.Common.{◌≡◌, take, Ok}
use Rattle.model.specs.Results.{each}
use Rattle.resolving.specs.Resolving.{served_with, path_in}
use Rattle.resolving.proofs.served.all_served_by.Given as goal

abbrev pub invariant-loop-class : goal.invariant-loop-class
invariant-loop-class l = each (served_with (path_in l.paths.entries)) (take l.class-index l.classes) ≡ Ok l.served.items
