use Rattle.std.proofs.Common.{rules, inr, refl, sym, ◌∙◌}
use Rattle.hex.proofs.HexLemmas.{decode_of-ok}
use Rattle.tree_text.proofs.LowerDigits.{encode_lower-decode_of}
use Rattle.lines.proofs.OutputLemmas.{not-lower, not-read}
use Rattle.lines.proofs.words.read_raw.Goals as goal

pub returns-then-not-are_lower_digits-clause-refused : goal.returns-then-not-are_lower_digits-clause-refused
returns-then-not-are_lower_digits-clause-refused c =
    inr (λ bytes raw. not-lower c.args.digits.now bytes (sym c.are_lower_digits.ensures ∙ c.if-not-are_lower_digits.true) raw.0 raw.1, refl)

pub returns-in-Ok-clause-read : goal.returns-in-Ok-clause-read
returns-in-Ok-clause-read c = (
  (decode_of-ok c.args.digits.now _ c.in-Ok.ensures.ok).3,
  encode_lower-decode_of c.args.digits.now _ c.in-Ok.ensures.ok (sym c.are_lower_digits.ensures ∙ c.if-not-are_lower_digits.false),
)

pub returns-in-Err : goal.returns-in-Err
returns-in-Err c = record {
  read = tt;
  refused = inr (λ bytes raw. not-read c.args.digits.now bytes c.in-Err.field-0 c.in-Err.ensures.err (search rules) raw.0 raw.1, refl);
}
