use Rattle.std.proofs.Common.{◌≡◌, ◌++◌, drop}
use Rattle.std.specs.Prelude.{map}
use Rattle.endings.specs.DeskDeltas.{status_at, waiting}
use Rattle.endings.proofs.delta.waiting.Given as goal

abbrev pub invariant-loop-number : goal.invariant-loop-number
invariant-loop-number l = map status_at l.statuses.items ++ waiting (drop l.number-index l.numbers) ≡ waiting l.numbers
