use Rattle.std.proofs.Common.{◌≡◌, ◌+◌, ◌≤◌, ◌<◌, subst, sym, ◌∙◌, ap, arith, length}
use Rattle.model.specs.Archives.{Tree, IsTree, nar}
use Rattle.model.specs.TreeTexts.{tree_text_of}
use Rattle.nar.specs.NodeTrees.{tree_of}
use Rattle.tree_text.specs.TextReading.{whole_at}
use Rattle.nar.proofs.NodeLengths.{length-nar}
use Rattle.tree_text.proofs.TextCompleteness.{whole_at-tree_text_of}
use Rattle.tree_text.proofs.TextSoundness.{whole_at-sound, within}
use Rattle.tree_text.proofs.reader.read_tree_text.Goals as goal

pub returns-then-nar_len-gt-MOST_ARCHIVE_BYTES-clause-refused : goal.returns-then-nar_len-gt-MOST_ARCHIVE_BYTES-clause-refused
returns-then-nar_len-gt-MOST_ARCHIVE_BYTES-clause-refused c =
    let tree = tree_of c.in-Ok.node in
    let read = whole_at-sound c.args.text.now tree c.in-Ok.ensures in
    let long : 67108864 < length (nar tree) = omega (arith, length-nar tree, c.node_len-nar_len.ensures) in
    (tree, read.0, sym read.1, long)

pub node_depth-depth-requires : goal.node_depth-depth-requires
node_depth-depth-requires c = (whole_at-sound c.args.text.now (tree_of c.in-Ok.node) c.in-Ok.ensures).0.depth

pub measured-requires : goal.measured-requires
measured-requires c =
    let tree = tree_of c.in-Ok.node in
    let read = whole_at-sound c.args.text.now tree c.in-Ok.ensures in
    let len : 24 + c.node_len-nar_len.result ≡ length (nar tree) = omega (arith, length-nar tree, c.node_len-nar_len.ensures) in
    record { whole = within tree read.0 (omega (arith, len)); depth = c.node_depth-depth.ensures; nar_len = len }

pub returns-in_ok-tree-in-Ok-clause-tree : goal.returns-in_ok-tree-in-Ok-clause-tree
returns-in_ok-tree-in-Ok-clause-tree c =
    let tree = tree_of c.in-Ok.node in
    let read = whole_at-sound c.args.text.now tree c.in-Ok.ensures in
    let fits : length (nar tree) ≤ 67108864 = omega (arith, length-nar tree, c.node_len-nar_len.ensures) in
    let Read : Tree → Type 0 = λ t. (c.args.text.now ≡ tree_text_of t) × IsTree t in
    subst Read (sym c.in_ok-tree-in-Ok.ensures.tree) (read.1, within tree read.0 fits)

pub returns-in-Err-Malformed-clause-refused : goal.returns-in-Err-Malformed-clause-refused
returns-in-Err-Malformed-clause-refused c =
    let none = rw c.in-Err-Malformed.field-0-is at c.in-Err-Malformed.ensures in
    (λ tree h e. let found = sym (whole_at-tree_text_of tree h.sound h.depth h.bytes) ∙ ap whole_at e ∙ none in cc found)
