use Rattle.std.proofs.Common.{take, All}
use Rattle.outputs.specs.Kept.{IsOtherSettled}
use Rattle.outputs.proofs.settlements.found.Given as goal

abbrev pub invariant-loop-one : goal.invariant-loop-one
invariant-loop-one l = All (IsOtherSettled l.input l.tree) (take l.one-index l.settled)
