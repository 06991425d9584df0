use Rattle.std.proofs.Common.{◌≡◌, ◌*◌, length, take}
use Rattle.hex.specs.Hex.{encode_lower, IsBytes}
use Rattle.tree_text.proofs.digits.put_bytes.Given as goal

abbrev pub invariant-loop-i : goal.invariant-loop-i
invariant-loop-i l = record {
  long : length l.bytes ≡ length l.fn.bytes;
  bytes : IsBytes l.bytes;
  done : encode_lower (take l.i l.bytes) ≡ take (2 * l.i) l.digits;
}
