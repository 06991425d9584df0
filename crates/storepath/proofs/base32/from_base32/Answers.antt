use Rattle.std.proofs.Common.{◌≡◌, ℕ, length, get_or, refl, arith, ◌∙◌, ap, sym, subst, lit<, List, take}
use Rattle.std.proofs.Math.Nat.{pow-le-pow_right}
use Rattle.std.proofs.lemmas.List.{take_all}
use Rattle.model.specs.Paths.{digits_of, number_of}
use Rattle.storepath.proofs.NumberLemmas.{IsFolded-zeros}
use Rattle.storepath.proofs.DigitLemmas.{length-digits_of, not_a_digit, is_digit, read_digit, small_number}
use Rattle.storepath.proofs.PathTests.{base32_is_hash_part}
use Rattle.storepath.proofs.base32.from_base32.Goals as goal

pub returns-then-text-ne32-clause-refused : goal.returns-then-text-ne32-clause-refused
returns-then-text-ne32-clause-refused c =
    (refl, λ bytes folded same. omega (arith, ap length same, length-digits_of 32 (number_of bytes), c.if-text-ne32.true))

pub loop-character-init : goal.loop-character-init
unfolding digits_of number_of
loop-character-init c = record { read = refl; folded = IsFolded-zeros; small = lit< tt }

pub append-requires-clause-fits : goal.append-requires-clause-fits
append-requires-clause-fits c =
    omega (arith, c.loop-character.invariant.small, pow-le-pow_right {n = 32} (lit< tt) {i = c.loop-character.character-index} {j = 31} (omega arith))

pub loop-character-preserved : goal.loop-character-preserved
loop-character-preserved c =
    let i : ℕ = c.loop-character.character-index in
    let digit = is_digit (get_or c.args.text.now i 0) c.in-Some.digit (sym c.digit_value.ensures ∙ c.in-Some.is) in
    record {
      read = read_digit c.args.text.now i (number_of c.loop-character.number) (number_of c.append.new.number) c.in-Some.digit (omega arith) digit.0 digit.1 c.append.ensures.value c.loop-character.invariant.read;
      folded = c.append.ensures.bytes;
      small = small_number i (number_of c.loop-character.number) c.in-Some.digit (number_of c.append.new.number) c.loop-character.invariant.small digit.0 c.append.ensures.value;
    }

pub returns-in_default-clause-refused : goal.returns-in_default-clause-refused
returns-in_default-clause-refused c =
    let i : ℕ = c.loop-character.character-index in
    let character : ℕ = get_or c.args.text.now i 0 in
    (refl, λ bytes folded same. not_a_digit character (sym c.digit_value.ensures ∙ c.in_default.is) 32 (number_of bytes) i (omega arith) (ap (λ text. get_or text i 0) same))

pub returns-clause-digits : goal.returns-clause-digits
returns-clause-digits c =
    let i : ℕ = c.loop-character.character-index in
    let text : List ℕ = c.args.text.now in
    let end : i ≡ 32 = omega arith in
    let read = subst (λ k. digits_of k (number_of c.loop-character.number) ≡ take k text) end c.loop-character.invariant.read in
    sym (base32_is_hash_part c.loop-character.number text (read ∙ take_all 32 text (omega arith)))
