use Rattle.laws.proofs.QueryLemmas.{no_change}
use Rattle.laws.proofs.events.queries_change_nothing.Goals as goal

pub returns : goal.returns
returns c = no_change
