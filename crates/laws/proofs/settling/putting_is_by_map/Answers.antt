use Rattle.laws.proofs.MapLemmas.{puts_the_same}
use Rattle.laws.proofs.settling.putting_is_by_map.Goals as goal

pub returns : goal.returns
returns c = puts_the_same
