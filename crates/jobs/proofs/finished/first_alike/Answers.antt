use Rattle.std.proofs.Common.{◌∙◌, sym, arith}
use Rattle.jobs.specs.Numbers.{is_other_alike}
use Rattle.jobs.proofs.FinishedLemmas.{find_here, find_next, find_past}
use Rattle.jobs.proofs.finished.first_alike.Goals as goal

pub returns-then-is_other_alike : goal.returns-then-is_other_alike
returns-then-is_other_alike c =
    sym (find_here (is_other_alike c.args.number c.args.goals.now) c.args.numbers.now c.loop-other.other-index c.loop-other-test.true
    (sym c.is_other_alike.ensures ∙ c.if-is_other_alike.true))
    ∙ c.loop-other.invariant

pub loop-other-preserved : goal.loop-other-preserved
loop-other-preserved c =
    find_next (is_other_alike c.args.number c.args.goals.now) c.args.numbers.now c.loop-other.other-index c.loop-other-test.true
    (sym c.is_other_alike.ensures ∙ c.if-is_other_alike.false)
    ∙ c.loop-other.invariant

pub returns : goal.returns
returns c =
    sym (find_past (is_other_alike c.args.number c.args.goals.now) c.args.numbers.now c.loop-other.other-index (omega arith)) ∙ c.loop-other.invariant
