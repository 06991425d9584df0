use Rattle.aterm.specs.Parts.{derivation_of}
use Rattle.resolving.proofs.SameLemmas.{derivation_decides}
use Rattle.resolving.proofs.same.same_derivation.Goals as goal

pub returns : goal.returns
returns c =
    let one = c.parts-one.ensures.parts in
    let other = c.parts-other.ensures.parts in
    rw (← one, ← other) (derivation_decides (derivation_of c.parts-one.result.now) (derivation_of c.parts-other.result.now) c.eq.result c.eq-2.result
    c.eq-3.result c.eq-4.result c.eq-5.result c.eq-6.result c.eq.ensures c.eq-2.ensures c.eq-3.ensures c.eq-4.ensures c.eq-5.ensures c.eq-6.ensures)
