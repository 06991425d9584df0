use Rattle.std.proofs.Common.{◌∙◌, sym, ap}
use Rattle.std.specs.Prelude.{option_copied}
use Rattle.model.specs.Orders.{least_from}
use Rattle.choose.specs.Visible.{recorded_before, is_any_or_at, those_at}
use Rattle.choose.proofs.ChoosingLemmas.{least_end, least_next}
use Rattle.choose.proofs.choice.least_from.Goals as goal

pub loop-candidate-preserved : goal.loop-candidate-preserved
loop-candidate-preserved c =
    let path = option_copied c.args.path in
    let left = c.next.new.self in
    ap (λ b. least_from recorded_before b (those_at path left)) c.lesser_at-best.ensures
    ∙ least_next (is_any_or_at path) (option_copied c.loop-candidate.best) c.in-Some.candidate.now left c.loop-candidate.candidate-iterator
    c.in-Some.ensures.steps ∙ c.loop-candidate.invariant

pub returns : goal.returns
returns c =
    let path = option_copied c.args.path in
    sym (least_end recorded_before (option_copied c.loop-candidate.best) (those_at path c.loop-candidate.candidate-iterator)
    (ap (those_at path) c.in-None.ensures.steps.0)) ∙ c.loop-candidate.invariant
