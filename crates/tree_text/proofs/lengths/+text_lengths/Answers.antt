use Rattle.std.proofs.Common.{rules, ◌≡◌, ◌∙◌, ◌+◌, ◌*◌, ◌<◌, ap, arith, length, true}
use Rattle.nar.specs.declared.node.Node.TheViews.{the_lemmas}
use Rattle.model.specs.TreeTexts.{tree_text_of, entries_text_of, separator}
use Rattle.nar.specs.NodeTrees.{tree_of, entries_of}
use Rattle.tree_text.proofs.TextLengths.{length-file_node, length-link_node, length-directory_node, length-entries_here, entries_text_fits}
use Rattle.tree_text.proofs.lengths.+text_lengths.Goals as goal

pub text_len-overflow_add-result : goal.text_len-overflow_add-result
text_len-overflow_add-result t c =
    let long : length (tree_text_of (tree_of c.args.node.now)) ≡ 2 + 2 * length c.in-File.bytes.items = ap (λ n. length (tree_text_of (tree_of n))) c.in-File.is ∙ length-file_node c.in-File.executable c.in-File.bytes in
    omega (arith, long)

pub text_len-returns-in-File : goal.text_len-returns-in-File
text_len-returns-in-File t c =
    let long : length (tree_text_of (tree_of c.args.node.now)) ≡ 2 + 2 * length c.in-File.bytes.items = ap (λ n. length (tree_text_of (tree_of n))) c.in-File.is ∙ length-file_node c.in-File.executable c.in-File.bytes in
    omega (arith, long)

pub text_len-overflow_add-result-in-Link : goal.text_len-overflow_add-result-in-Link
text_len-overflow_add-result-in-Link t c =
    let long : length (tree_text_of (tree_of c.args.node.now)) ≡ 2 + 2 * length c.in-Link.target.items = ap (λ n. length (tree_text_of (tree_of n))) c.in-Link.is ∙ length-link_node c.in-Link.target in
    omega (arith, long)

pub text_len-returns-in-Link : goal.text_len-returns-in-Link
text_len-returns-in-Link t c =
    let long : length (tree_text_of (tree_of c.args.node.now)) ≡ 2 + 2 * length c.in-Link.target.items = ap (λ n. length (tree_text_of (tree_of n))) c.in-Link.is ∙ length-link_node c.in-Link.target in
    omega (arith, long)

pub text_len-overflow_add-result-in-Directory : goal.text_len-overflow_add-result-in-Directory
text_len-overflow_add-result-in-Directory t c =
    let long : length (tree_text_of (tree_of c.args.node.now)) ≡ 3 + length (entries_text_of true (entries_of c.in-Directory.entries.items)) = ap (λ n. length (tree_text_of (tree_of n))) c.in-Directory.is ∙ length-directory_node c.in-Directory.entries in
    let same : length (entries_text_of true (entries_of c.deref.result.now)) ≡ length (entries_text_of true (entries_of c.in-Directory.entries.items)) = ap (λ es. length (entries_text_of true (entries_of es))) c.deref.ensures.value in
    omega (arith, long, same)

pub text_len-returns-in-Directory : goal.text_len-returns-in-Directory
text_len-returns-in-Directory t c =
    let long : length (tree_text_of (tree_of c.args.node.now)) ≡ 3 + length (entries_text_of true (entries_of c.in-Directory.entries.items)) = ap (λ n. length (tree_text_of (tree_of n))) c.in-Directory.is ∙ length-directory_node c.in-Directory.entries in
    let same : length (entries_text_of true (entries_of c.deref.result.now)) ≡ length (entries_text_of true (entries_of c.in-Directory.entries.items)) = ap (λ es. length (entries_text_of true (entries_of es))) c.deref.ensures.value in
    omega (arith, long, same)

pub entries_text_len-overflow_add-len-in-loop-entry : goal.entries_text_len-overflow_add-len-in-loop-entry
entries_text_len-overflow_add-len-in-loop-entry t c =
    let xs = c.args.entries.now in
    let i = c.loop-entry.entry-index in
    let below : i < length xs = omega arith in
    let here = length-entries_here xs i c.entry-item.result c.loop-entry.first below c.entry-item.is in
    let mark : length c.separator_before-separator.result.now ≡ length (separator c.loop-entry.first) = ap length c.separator_before-separator.ensures in
    omega (arith, here, mark)

pub entries_text_len-overflow_add-len-in-loop-entry-2 : goal.entries_text_len-overflow_add-len-in-loop-entry-2
entries_text_len-overflow_add-len-in-loop-entry-2 t c =
    let xs = c.args.entries.now in
    let i = c.loop-entry.entry-index in
    let below : i < length xs = omega arith in
    let here = length-entries_here xs i c.entry-item.result c.loop-entry.first below c.entry-item.is in
    let mark : length c.separator_before-separator.result.now ≡ length (separator c.loop-entry.first) = ap length c.separator_before-separator.ensures in
    omega (arith, here, mark, ap (λ n. length (tree_text_of (tree_of n))) c.deref.ensures)

pub entries_text_len-overflow_add-len-in-loop-entry-3 : goal.entries_text_len-overflow_add-len-in-loop-entry-3
entries_text_len-overflow_add-len-in-loop-entry-3 t c =
    let xs = c.args.entries.now in
    let i = c.loop-entry.entry-index in
    let below : i < length xs = omega arith in
    let here = length-entries_here xs i c.entry-item.result c.loop-entry.first below c.entry-item.is in
    let mark : length c.separator_before-separator.result.now ≡ length (separator c.loop-entry.first) = ap length c.separator_before-separator.ensures in
    omega (arith, here, mark, ap (λ n. length (tree_text_of (tree_of n))) c.deref.ensures)

pub entries_text_len-loop-entry-preserved : goal.entries_text_len-loop-entry-preserved
entries_text_len-loop-entry-preserved t c =
    let xs = c.args.entries.now in
    let i = c.loop-entry.entry-index in
    let below : i < length xs = omega arith in
    let here = length-entries_here xs i c.entry-item.result c.loop-entry.first below c.entry-item.is in
    let mark : length c.separator_before-separator.result.now ≡ length (separator c.loop-entry.first) = ap length c.separator_before-separator.ensures in
    omega (arith, here, mark, ap (λ n. length (tree_text_of (tree_of n))) c.deref.ensures)

pub text_len-entries_text_len-requires : goal.text_len-entries_text_len-requires
text_len-entries_text_len-requires t c =
    (search (rules, the_lemmas), entries_text_fits _ _ _ c.requires c.in-Directory.is c.deref.ensures.value)

pub entries_text_len-text_len-requires : goal.entries_text_len-text_len-requires
entries_text_len-text_len-requires t c =
    let xs = c.args.entries.now in
    let i = c.loop-entry.entry-index in
    let below : i < length xs = omega arith in
    let here = length-entries_here xs i c.entry-item.result c.loop-entry.first below c.entry-item.is in
    (search (rules, the_lemmas), omega (arith, here, ap (λ n. length (tree_text_of (tree_of n))) c.deref.ensures))
