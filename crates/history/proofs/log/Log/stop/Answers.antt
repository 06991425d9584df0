use Rattle.std.proofs.Common.{rules}
use Rattle.history.proofs.TokenLemmas.{stops_as}
use Rattle.history.proofs.log.Log.stop.Goals as goal

pub load-requires : goal.load-requires
load-requires g c = (search rules, search rules, stops_as _ _ _ _ c.self.invariant.3)
