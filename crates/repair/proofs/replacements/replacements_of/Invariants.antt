use Rattle.std.proofs.Common.{◌≡◌, take, All, Ok}
use Rattle.model.specs.Paths.{IsPath}
use Rattle.model.specs.References.{paths_of_labels}
use Rattle.model.specs.Repairs.{replacements_of}
use Rattle.repair.specs.Served.{served_in}
use Rattle.repair.proofs.replacements.replacements_of.Given as goal

abbrev pub invariant-loop-label : goal.invariant-loop-label
invariant-loop-label l = record {
  replacements : replacements_of (served_in l.served.entries l.rank) (take l.label-index l.labels) ≡ Ok l.replacements.items;
  sound : All IsPath (paths_of_labels (take l.label-index l.labels));
}
