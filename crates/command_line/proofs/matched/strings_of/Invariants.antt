use Rattle.std.proofs.Common.{◌≡◌, ◌++◌, drop, map}
use Rattle.std.specs.Prelude.{string_bytes}
use Rattle.clap.specs.Walk.{texts}
use Rattle.command_line.proofs.matched.strings_of.Given as goal

-- the strings so far and the words that are left are all the words
abbrev pub invariant-loop-word : goal.invariant-loop-word
invariant-loop-word l = map string_bytes l.strings.items ++ texts (drop l.word-index l.words) ≡ texts l.words
