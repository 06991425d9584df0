use Rattle.std.proofs.Common.{rules, ◌≡◌, arith}
use Rattle.std.specs.Prelude.{slice_index, get_or}
use Rattle.hex.specs.Hex.{lower_digits}
use Rattle.tree_text.proofs.DigitLemmas.{no_values, own_digit, digit_below, next_value}
use Rattle.tree_text.proofs.digits.digit_values.Goals as goal
use Rattle.tree_text.proofs.digits.digit_values.Goals.{After-unwrap}

pub loop-value-init : goal.loop-value-init
loop-value-init c = no_values

is : (c : After-unwrap) → get_or c.encode_to_slice.new.output 1 0 ≡ slice_index lower_digits c.loop-value.value
is c = own_digit c.loop-value.value c.encode_to_slice.new.output c.loop-value-test.true (search rules)

pub overflow_cast-values : goal.overflow_cast-values
overflow_cast-values c = (let own = is c in let small = digit_below c.loop-value.value c.loop-value-test.true in omega (arith, own, small))

pub bounds-values-digits : goal.bounds-values-digits
bounds-values-digits c = (let own = is c in let small = digit_below c.loop-value.value c.loop-value-test.true in omega (arith, own, small))

pub loop-value-preserved : goal.loop-value-preserved
loop-value-preserved c = rw (is c) (next_value c.loop-value.values c.loop-value.value c.loop-value-test.true c.loop-value.invariant)
