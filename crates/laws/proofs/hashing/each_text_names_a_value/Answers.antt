use Rattle.laws.proofs.HashedValueLemmas.{each_text}
use Rattle.laws.proofs.hashing.each_text_names_a_value.Goals as goal

pub returns : goal.returns
returns c = each_text
