use Rattle.std.proofs.Common.{◌≡◌, ◌+◌, drop, length, true}
use Rattle.model.specs.TreeTexts.{entries_text_of}
use Rattle.nar.specs.NodeTrees.{entries_of}
use Rattle.tree_text.proofs.lengths.+text_lengths.Given as goal

abbrev pub invariant-entries_text_len-loop-entry : goal.invariant-entries_text_len-loop-entry
invariant-entries_text_len-loop-entry l =
    l.len + length (entries_text_of l.first (entries_of (drop l.entry-index l.entries))) ≡ length (entries_text_of true (entries_of l.entries))
