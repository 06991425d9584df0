use Rattle.std.proofs.Common.{◌≡◌, take}
use Rattle.jobs.proofs.UserLemmas.{no_goals}
use Rattle.jobs.proofs.users.Jobs.new.Given as goal

abbrev pub invariant-loop-user : goal.invariant-loop-user
invariant-loop-user l = l.all.items ≡ no_goals (take l.user-index l.users)
