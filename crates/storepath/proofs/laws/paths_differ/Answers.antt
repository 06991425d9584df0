use Rattle.storepath.proofs.DistinctLemmas.{one_text_at_a_path}
use Rattle.storepath.proofs.laws.paths_differ.Goals as goal

pub returns : goal.returns
returns c = one_text_at_a_path
