use Rattle.std.proofs.Common.{◌≡◌, map, take}
use Rattle.endings.specs.Committing.{delta_delivered, added_in, to_add}
use Rattle.endings.proofs.committing.additions_of.Given as goal

abbrev pub invariant-loop-one : goal.invariant-loop-one
invariant-loop-one l = map added_in l.all.items ≡ map (λ h. to_add (delta_delivered h)) (take l.one-index l.delivered)
