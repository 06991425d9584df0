use Rattle.tree_text.proofs.DigitLemmas.{HasValues}
use Rattle.tree_text.proofs.digits.digit_values.Given as goal

abbrev pub invariant-loop-value : goal.invariant-loop-value
invariant-loop-value l = HasValues l.values l.value
