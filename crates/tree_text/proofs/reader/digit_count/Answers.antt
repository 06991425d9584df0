use Rattle.std.proofs.Common.{◌∙◌, sym, arith}
use Rattle.tree_text.specs.TextReading.{is_lower_digit}
use Rattle.tree_text.proofs.LowerDigits.{length-take_while-past}
use Rattle.tree_text.proofs.reader.digit_count.Goals as goal

pub loop-block-preserved : goal.loop-block-preserved
loop-block-preserved c =
    let parts = c.in-Some.ensures.cases in
    let digits = sym c.are_digits.ensures ∙ c.if-not-are_digits.false in
    let past = length-take_while-past is_lower_digit 64 c.loop-block.rest.now c.in-Some.block.now c.in-Some.others.now parts.0 parts.1 digits in
    let before = c.loop-block.invariant in
    record {
      within = omega (arith, parts.2, before.within);
      passed = omega (arith, past, before.passed);
    }
