use Rattle.std.proofs.Common.{take, All}
use Rattle.classes.specs.Admitting.{IsNotFor}
use Rattle.classes.proofs.admissions.found.Given as goal

abbrev pub invariant-loop-one : goal.invariant-loop-one
invariant-loop-one l = All (IsNotFor l.known l.text) (take l.one-index l.all)
