use Rattle.std.proofs.Common.{arith, ap, sym}
use Rattle.repair.specs.Keeping.{size_of, sizes}
use Rattle.repair.proofs.KeepingLemmas.{last_gone}
use Rattle.repair.proofs.kept.Kept.make_room.Goals as goal

pub overflow_sub-self : goal.overflow_sub-self
overflow_sub-self c =
    omega (arith, last_gone size_of c.loop-self.self.records.entries _ (sym c.in-Some.ensures.value), c.loop-self.self.counted, c.size.ensures)

pub invariant_of-self-in-loop-self : goal.invariant_of-self-in-loop-self
invariant_of-self-in-loop-self c =
    let without = last_gone size_of c.loop-self.self.records.entries _ (sym c.in-Some.ensures.value) in
    record {
      counted = omega (arith, without, c.loop-self.self.counted, c.size.ensures, c.loop-self.self.bounded, ap (λ r. sizes r.entries) c.pop_lru.ensures.entries);
      bounded = omega (arith, c.loop-self.self.bounded);
    }
