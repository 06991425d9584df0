use Rattle.laws.proofs.HashLemmas.{hashes_no_more}
use Rattle.laws.proofs.events.striking_hashes_no_more.Goals as goal

pub returns : goal.returns
returns c = hashes_no_more
