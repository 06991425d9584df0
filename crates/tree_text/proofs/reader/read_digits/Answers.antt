use Rattle.std.proofs.Common.{◌≡◌, ◌∙◌}
use Rattle.tree_text.specs.TextReading.{is_lower_digit, digits_in_front}
use Rattle.nar.proofs.ReadingSteps.{split_sound}
use Rattle.tree_text.proofs.LowerDigits.{front_is, take_while-list_all}
use Rattle.tree_text.proofs.reader.read_digits.Goals as goal

pub decoded-requires : goal.decoded-requires
decoded-requires c =
    let parts = split_sound c.digit_count.result c.args.bytes.now (c.in_ok-digits.digits.now, c.in_ok-digits.rest.now) c.in_ok-digits.ensures.read in
    let front : c.in_ok-digits.digits.now ≡ digits_in_front c.args.bytes.now =
    front_is is_lower_digit c.args.bytes.now c.in_ok-digits.digits.now c.in_ok-digits.rest.now parts.0 (parts.1 ∙ c.digit_count.ensures) in
    rw front (take_while-list_all is_lower_digit c.args.bytes.now)
