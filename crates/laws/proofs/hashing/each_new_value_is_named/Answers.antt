use Rattle.laws.proofs.HashedNewLemmas.{each_new}
use Rattle.laws.proofs.hashing.each_new_value_is_named.Goals as goal

pub returns : goal.returns
returns c = each_new
