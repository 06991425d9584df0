use Rattle.laws.proofs.HashedRefusalLemmas.{others_hash_nothing}
use Rattle.laws.proofs.hashing.other_refusals_hash_nothing.Goals as goal

pub returns : goal.returns
returns c = others_hash_nothing
