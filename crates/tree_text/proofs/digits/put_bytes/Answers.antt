use Rattle.std.proofs.Common.{◌≡◌, refl, arith, ◌*◌, take, take_all, length-set, ap, sym, ◌∙◌}
use Rattle.hex.specs.Hex.{encode_with, encode_lower, decode_of}
use Rattle.hex.proofs.HexLemmas.{decode_of-encode_lower}
use Rattle.tree_text.proofs.DigitLemmas.{next_byte, still_bytes}
use Rattle.tree_text.proofs.digits.put_bytes.Goals as goal

pub loop-i-init : goal.loop-i-init
unfolding encode_with
loop-i-init c = record { long = refl; bytes = λ i. (let fits = c.type_inv.bytes i in omega (arith, fits)); done = refl }

pub loop-i-preserved : goal.loop-i-preserved
loop-i-preserved c =
    let before = c.loop-i.invariant in
    let long = before.long in
    let room = c.requires.room in
    record {
      long = length-set c.loop-i.bytes c.loop-i.i _ ∙ before.long;
      bytes = still_bytes c.args.values.now c.args.digits.now c.loop-i.bytes c.loop-i.i c.requires.values before.bytes
          (omega (arith, long, c.loop-i-test.true));
      done = next_byte c.args.values.now c.args.digits.now c.loop-i.bytes c.loop-i.i c.requires.values c.requires.digits
          (omega (arith, long, room)) (omega (arith, long, c.loop-i-test.true)) before.done;
    }

pub returns-clause-decoded : goal.returns-clause-decoded
returns-clause-decoded c =
    let before = c.loop-i.invariant in
    let long = before.long in
    let room = c.requires.room in
    let i = c.loop-i.i in
    let all : take i c.loop-i.bytes ≡ c.loop-i.bytes = take_all i c.loop-i.bytes (omega (arith, long, c.loop-i-test.false)) in
    let digits : take (2 * i) c.args.digits.now ≡ c.args.digits.now = take_all (2 * i) c.args.digits.now (omega (arith, room, c.loop-i-test.false)) in
    let whole : encode_lower c.loop-i.bytes ≡ c.args.digits.now = ap encode_lower (sym all) ∙ before.done ∙ digits in
    ap decode_of (sym whole) ∙ decode_of-encode_lower c.loop-i.bytes before.bytes
