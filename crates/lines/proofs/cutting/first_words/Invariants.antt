use Rattle.std.proofs.Common.{◌≡◌, ◌++◌, length}
use Rattle.model.specs.Lines.{split}
use Rattle.lines.proofs.cutting.first_words.Given as goal

-- so many words are taken, and the rest has the others
abbrev pub invariant-loop-word : goal.invariant-loop-word
invariant-loop-word l = (split 32 l.text ≡ l.words.items ++ split 32 l.rest) × (length l.words.items ≡ l._word)
