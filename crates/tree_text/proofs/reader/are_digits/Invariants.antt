use Rattle.std.proofs.Common.{◌≡◌, ◌&&◌, drop}
use Rattle.std.specs.List.{list_all}
use Rattle.tree_text.specs.TextReading.{is_lower_digit}
use Rattle.tree_text.proofs.reader.are_digits.Given as goal

-- the bytes so far are digits where all are, as far as the others are
abbrev pub invariant-loop-byte : goal.invariant-loop-byte
invariant-loop-byte l = (l.are_digits && list_all is_lower_digit (drop l.byte-index l.block)) ≡ list_all is_lower_digit l.block
