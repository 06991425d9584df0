use Rattle.std.proofs.Common.{◌≡◌, length}
use Rattle.std.specs.List.{list_any}
use Rattle.model.specs.Lines.{split}
use Rattle.model.specs.ParsedLines.{is_empty_word}
use Rattle.lines.proofs.cutting.has_empty_word.Given as goal

-- the words so far are not empty
abbrev pub invariant-loop-word : goal.invariant-loop-word
invariant-loop-word l = list_any is_empty_word (split 32 l.text) ≡ list_any is_empty_word (split 32 l.rest)

abbrev pub decreases-loop-word : goal.decreases-loop-word
decreases-loop-word l = length l.rest
