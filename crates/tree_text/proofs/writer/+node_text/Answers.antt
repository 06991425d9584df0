use Rattle.std.proofs.Common.{◌≡◌, ◌<◌, ◌++◌, ◌∙◌, sym, ap, subst, OnOk, length, arith}
use Rattle.model.specs.Archives.{Tree, Directory}
use Rattle.model.specs.TreeTexts.{tree_text_of}
use Rattle.nar.specs.NodeTrees.{tree_of, entries_of}
use Rattle.nar.proofs.NodeViews.{directory_tree}
use Rattle.tree_text.proofs.WrittenEntries.{item_written}
use Rattle.tree_text.proofs.writer.+node_text.Goals as goal

pub write_node-returns-in-Directory : goal.write_node-returns-in-Directory
write_node-returns-in-Directory t c =
    let same : Directory (entries_of c.deref-in-Directory.result.now) ≡ tree_of c.args.node.now =
    ap (λ es. Directory (entries_of es)) c.deref-in-Directory.ensures.value ∙ sym (directory_tree c.in-Directory.entries) ∙ sym (ap tree_of c.in-Directory.is) in
    let Written : Tree → Type 0 = λ tree. OnOk c.write_directory.result (c.write_directory.new.text.items ≡ c.args.text.now.items ++ tree_text_of tree) in
    subst Written same c.write_directory.ensures

pub write_entries-loop-entry-preserved : goal.write_entries-loop-entry-preserved
write_entries-loop-entry-preserved t c =
    let xs = c.args.entries.now in
    let i = c.loop-entry.entry-index in
    let below : i < length xs = omega arith in
    item_written xs i c.entry-item.result c.loop-entry.first _ _ _ _ _ _ _ _ _ below c.entry-item.is c.deref.ensures.value c.deref-in-loop-entry.ensures
    c.separator_before.ensures c.in_ok-extend_from_slice.ensures.items c.in_ok-add_digits.ensures
    c.in_ok-extend_from_slice-2.ensures.items c.in_ok-write_node.ensures c.loop-entry.invariant
