use Rattle.std.proofs.Common.{take, All}
use Rattle.outputs.specs.Kept.{IsOther}
use Rattle.outputs.proofs.sources.found.Given as goal

abbrev pub invariant-loop-one : goal.invariant-loop-one
invariant-loop-one l = All (IsOther l.name l.tree) (take l.one-index l.placed)
