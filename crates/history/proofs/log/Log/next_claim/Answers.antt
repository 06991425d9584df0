use Rattle.std.proofs.Common.{rules, ap}
use Rattle.history.proofs.TokenLemmas.{deals_as}
use Rattle.history.proofs.log.Log.next_claim.Goals as goal

pub split_seat-seat-requires : goal.split_seat-seat-requires
split_seat-seat-requires g c = (search rules, search rules, deals_as _ _ _ (ap (λ m. m.0) c.self.invariant.3))
