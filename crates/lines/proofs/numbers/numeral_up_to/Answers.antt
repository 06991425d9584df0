use Rattle.std.proofs.Common.{sym, drop, arith}
use Rattle.lines.proofs.NumberLemmas.{numeral-over, number-grows}
use Rattle.lines.proofs.numbers.numeral_up_to.Goals as goal

pub returns-then-most-number-clause-number : goal.returns-then-most-number-clause-number
returns-then-most-number-clause-number c =
    sym (numeral-over c.args.most c.args.digits.now
    (omega (arith, c.if-most-number.true, c.loop-digit.invariant, number-grows c.loop-digit.number (drop c.loop-digit.digit-index c.args.digits.now))))
