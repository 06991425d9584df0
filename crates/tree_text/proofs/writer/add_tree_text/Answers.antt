use Rattle.std.proofs.Common.{arith, ap, length}
use Rattle.model.specs.TreeTexts.{tree_text_of}
use Rattle.tree_text.proofs.TextLengths.{text_fits}
use Rattle.tree_text.proofs.writer.add_tree_text.Goals as goal

pub text_len-len-requires : goal.text_len-len-requires
text_len-len-requires c = omega (arith, text_fits c.args.tree.now, c.node.ensures.tree.length, ap (λ t. length (tree_text_of t)) c.node.ensures.node)
