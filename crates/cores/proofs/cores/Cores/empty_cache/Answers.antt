use Rattle.std.specs.Arc.{arc_value}
use Rattle.cores.proofs.TurnLemmas.{behind_still}
use Rattle.cores.proofs.cores.Cores.empty_cache.Goals as goal

pub invariant_of-self : goal.invariant_of-self
invariant_of-self c =
    let inside = c.self.inside in
    behind_still inside.lag (arc_value inside.other) (arc_value c.empty_cache_of.new.core) (arc_value inside.shown) c.self.invariant c.empty_cache_of.ensures
