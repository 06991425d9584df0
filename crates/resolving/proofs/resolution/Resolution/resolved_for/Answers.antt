use Rattle.std.proofs.Common.{sym, ◌∙◌}
use Rattle.std.proofs.lemmas.Bool.Decides.{not_from_Decides}
use Rattle.resolving.proofs.SameLemmas.{served_decide}
use Rattle.resolving.proofs.resolution.Resolution.resolved_for.Goals as goal
use Rattle.resolving.proofs.resolution.Resolution.resolved_for.Goals.{else-eq-via-then-eq+else-same_derivation, else-eq-via-else-eq}

pub returns-then-same_derivation-clause-some : goal.returns-then-same_derivation-clause-some
returns-then-same_derivation-clause-some c =
    let served = served_decide c.as_slice.result.now c.args.served.now c.eq.result c.eq.ensures in
    (sym c.as_slice.ensures.value ∙ served.0 c.if-eq.true, sym c.derivation.ensures ∙ c.same_derivation.ensures.0 c.if-same_derivation.true)

pub returns-then-same_derivation-clause-text : goal.returns-then-same_derivation-clause-text
returns-then-same_derivation-clause-text c =
    let is = returns-then-same_derivation-clause-some c in rw (← is.0, ← is.1) c.args.self.now.text

pub returns-else-eq-clause-none : goal.returns-else-eq-clause-none
returns-else-eq-clause-none c is = elim c.else-eq.branch [
  | else-eq-via-then-eq+else-same_derivation w ↦
      not_from_Decides w.same_derivation.result w.same_derivation.ensures w.if-same_derivation.false (w.derivation.ensures ∙ is.1)
  | else-eq-via-else-eq w ↦
      not_from_Decides c.eq.result (served_decide c.as_slice.result.now c.args.served.now c.eq.result c.eq.ensures) w.if-eq.false
      (c.as_slice.ensures.value ∙ is.0)
]
