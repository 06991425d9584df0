use Rattle.std.proofs.Common.{◌≡◌, true, take}
use Rattle.classes.specs.Inputs.{has_inputs}
use Rattle.classes.specs.Admitting.{AreInputs}
use Rattle.classes.proofs.admission_input.known_inputs.Given as goal

abbrev pub invariant-loop-path : goal.invariant-loop-path
invariant-loop-path l = record {
  inputs : AreInputs l.known (take l.path-index l.paths) l.inputs.items;
  known : has_inputs l.known (take l.path-index l.paths) ≡ true;
}
