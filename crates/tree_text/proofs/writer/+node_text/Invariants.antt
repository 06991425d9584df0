use Rattle.std.proofs.Common.{◌≡◌, ◌++◌, drop, true}
use Rattle.model.specs.TreeTexts.{entries_text_of}
use Rattle.nar.specs.NodeTrees.{entries_of}
use Rattle.tree_text.proofs.writer.+node_text.Given as goal

abbrev pub invariant-write_entries-loop-entry : goal.invariant-write_entries-loop-entry
invariant-write_entries-loop-entry l = l.text.items ++ entries_text_of l.first (entries_of (drop l.entry-index l.entries)) ≡ l.initial.text.items ++ entries_text_of true (entries_of l.entries)
