use Rattle.std.proofs.Common.{◌≡◌, ◌++◌, take}
use Rattle.std.specs.Prelude.{map, string_bytes}
use Rattle.builder.specs.Launching.{limit_words}
use Rattle.builder.proofs.launching.launcher.Given as goal

-- the words so far stand behind those of the limit
abbrev pub invariant-loop-word : goal.invariant-loop-word
invariant-loop-word l = map string_bytes l.launcher.items ≡ limit_words l.fn.limit ++ map string_bytes (take l.word-index l.words)
