use Rattle.std.proofs.Common.{◌≡◌, drop}
use Rattle.model.specs.Lines.{number_behind}
use Rattle.lines.proofs.numbers.numeral_up_to.Given as goal

-- the digits so far write the number
abbrev pub invariant-loop-digit : goal.invariant-loop-digit
invariant-loop-digit l = number_behind 0 l.digits ≡ number_behind l.number (drop l.digit-index l.digits)
