use Rattle.realise.proofs.KeepingLemmas.{with_known, same_sources}
use Rattle.realise.proofs.desk.Desk.add_derivation.Goals as goal

pub invariant_of-self : goal.invariant_of-self
invariant_of-self c =
    with_known c.self.inside c.add_derivation.new.self
    (same_sources c.add_derivation.result c.self.inside.known c.add_derivation.new.self _ c.add_derivation.ensures) c.self.invariant
