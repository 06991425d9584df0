use Rattle.tree_text.proofs.TextCompleteness.{tree_text_of-injective}
use Rattle.tree_text.proofs.law.texts_differ.Goals as goal

pub returns : goal.returns
returns c = tree_text_of-injective
