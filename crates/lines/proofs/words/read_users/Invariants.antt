use Rattle.std.proofs.Common.{◌≡◌, take}
use Rattle.lines.proofs.words.read_users.Given as goal

-- so many users are named
abbrev pub invariant-loop-word : goal.invariant-loop-word
invariant-loop-word l = l.users.items ≡ take l.word-index l.words
