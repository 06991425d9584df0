use Rattle.builder.proofs.RoundLemmas.{filling}
use Rattle.builder.proofs.source.TicketQueue.put.Goals as goal

pub invariant_of-self : goal.invariant_of-self
invariant_of-self g c = filling _ _ _ _ _ _ _ _ _ _ c.self.invariant c.put.ensures.seat c.put.ensures.put
