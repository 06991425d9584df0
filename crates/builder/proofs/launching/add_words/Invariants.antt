use Rattle.std.proofs.Common.{take}
use Rattle.std.specs.Prelude.{map, string_bytes}
use Rattle.builder.specs.Commands.{AddsArguments}
use Rattle.builder.proofs.launching.add_words.Given as goal

-- the arguments so far are added
abbrev pub invariant-loop-word : goal.invariant-loop-word
invariant-loop-word l = AddsArguments l.initial.command (map string_bytes (take l.word-index l.words)) l.command
