use Rattle.std.proofs.Common.{◌≡◌, drop}
use Rattle.std.specs.List.{find}
use Rattle.jobs.specs.Numbers.{is_other_alike}
use Rattle.jobs.proofs.finished.first_alike.Given as goal

-- it is found among the numbers that are left
abbrev pub invariant-loop-other : goal.invariant-loop-other
invariant-loop-other l = find (is_other_alike l.number l.goals) (drop l.other-index l.numbers) ≡ find (is_other_alike l.number l.goals) l.numbers
