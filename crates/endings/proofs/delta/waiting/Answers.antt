use Rattle.std.proofs.Common.{ℕ, [], ◌∷◌, ◌∙◌, ap, refl, arith}
use Rattle.std.specs.Prelude.{map}
use Rattle.std.proofs.lemmas.List.{map_push}
use Rattle.model.specs.Worlds.{Waiting}
use Rattle.endings.specs.DeskDeltas.{status_at, waiting}
use Rattle.endings.proofs.LoopLemmas.{one_more, all_done}
use Rattle.endings.proofs.delta.waiting.Goals as goal

pub loop-number-preserved : goal.loop-number-preserved
loop-number-preserved c =
    one_more (λ (n : ℕ). (n, Waiting) ∷ []) waiting c.args.numbers.now c.loop-number.number-index 0 (map status_at c.loop-number.statuses.items)
    (map status_at c.push.new.self.items) _ (λ n ns. refl) (omega arith)
    (ap (map status_at) c.in_ok-push.ensures.items ∙ map_push status_at c.loop-number.statuses.items _) c.loop-number.invariant

pub returns-clause-statuses : goal.returns-clause-statuses
returns-clause-statuses c =
    all_done waiting c.args.numbers.now c.loop-number.number-index (map status_at c.loop-number.statuses.items) _ refl (omega arith) c.loop-number.invariant
