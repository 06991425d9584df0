use Rattle.std.proofs.Common.{◌≡◌, ◌≤◌, max, map, drop}
use Rattle.model.specs.Classes.{greatest}
use Rattle.classes.specs.Admitting.{rank_in}
use Rattle.classes.proofs.admission_input.greatest_of.Given as goal

abbrev pub invariant-loop-input : goal.invariant-loop-input
invariant-loop-input l = record {
  greatest : max l.greatest (greatest (map rank_in (drop l.input-index l.inputs))) ≡ greatest (map rank_in l.inputs);
  most : l.greatest ≤ 64;
}
