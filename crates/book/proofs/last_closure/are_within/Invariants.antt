use Rattle.std.proofs.Common.{◌≡◌, ◌+◌, take}
use Rattle.book.specs.KeptClosures.{size_of}
use Rattle.book.proofs.last_closure.are_within.Given as goal

-- what is left, and what the entries so far count, is all that they may
abbrev pub invariant-loop-entry : goal.invariant-loop-entry
invariant-loop-entry l = l.left + size_of (take l.entry-index l.entries) ≡ l.fn.most_bytes
