use Rattle.std.specs.Prelude.{map, string_bytes}
use Rattle.std.specs.Str.Iter.{split_whitespace_rest}
use Rattle.command_line.specs.Named.{AreFirstWords}
use Rattle.command_line.proofs.matched.words_of.Given as goal

-- the words so far are the first of the text, and the others are still to come
abbrev pub invariant-loop-word : goal.invariant-loop-word
invariant-loop-word l = AreFirstWords l.text (map string_bytes l.words.items) (split_whitespace_rest l.word-iterator)
