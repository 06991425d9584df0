use Rattle.std.proofs.Common.{◌+◌, [], ap, ◌∙◌, arith}
use Rattle.history.specs.declared.log.Recorded.{Recorded}
use Rattle.book.proofs.PassLemmas.{newcomers_next}
use Rattle.book.proofs.front.passes_of.Goals as goal

pub loop-number-preserved : goal.loop-number-preserved
loop-number-preserved g c =
    let i = c.loop-number.invariant in (
      omega (arith, i.0, c.split_off-calls.ensures.parts_left),
      omega (arith, i.1, c.split_off-calls.ensures.amount_left),
      newcomers_next c.loop-number.number c.loop-number.passes.items c.push.new.self.items c.new.result i.2 c.in_ok-push.ensures.items (c.new.ensures ∙ ap (λ p. record { caller = p; seen = []; stops = 0 }) c.new-caller.ensures),
      c.in_ok-reader.ensures.same.0 ∙ i.3,
      c.in_ok-reader.ensures.same.1 ∙ i.4,
      c.in_ok-reader.ensures.same.2 ∙ i.5,
      c.in_ok-reader.ensures.same.3 ∙ i.6,
      ap (λ (log : Recorded). log.rows) c.next_claim.ensures.log ∙ i.7,
      ap (λ (log : Recorded). log.next) c.next_claim.ensures.log ∙ ap (λ n. n + 1) i.8,
      ap (λ (log : Recorded). log.stopped) c.next_claim.ensures.log ∙ i.9,
      omega (arith, i.10, c.split_off-stops.ensures.parts_left),
      omega (arith, i.11, c.split_off-stops.ensures.amount_left),
    )
