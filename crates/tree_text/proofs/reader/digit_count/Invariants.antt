use Rattle.std.proofs.Common.{◌≡◌, ◌+◌, ◌≤◌, length}
use Rattle.tree_text.specs.TextReading.{digits_in_front}
use Rattle.tree_text.proofs.reader.digit_count.Given as goal

-- what was passed are digits
abbrev pub invariant-loop-block : goal.invariant-loop-block
invariant-loop-block l = record {
  within : length l.rest ≤ length l.bytes;
  passed : length (digits_in_front l.bytes) + length l.rest ≡ length l.bytes + length (digits_in_front l.rest);
}

abbrev pub decreases-loop-block : goal.decreases-loop-block
decreases-loop-block l = length l.rest
