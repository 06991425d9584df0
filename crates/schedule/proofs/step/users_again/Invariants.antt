use Rattle.std.specs.Prelude.{◌≡◌, take}
use Rattle.schedule.proofs.step.users_again.Given as goal

abbrev pub invariant-loop-user : goal.invariant-loop-user
invariant-loop-user l = l.copy.items ≡ take l.user-index l.users
