use Rattle.std.proofs.Common.{◌∙◌, ap, arith}
use Rattle.model.specs.Goals.{job_before}
use Rattle.model.specs.Orders.{least_from}
use Rattle.std.specs.Prelude.{option_copied}
use Rattle.jobs.specs.Joining.{jobs_among}
use Rattle.jobs.proofs.JoinLemmas.{among_next, among_done, led_among}
use Rattle.jobs.proofs.goals.Goals.least_job.Goals as goal

pub loop-number-preserved : goal.loop-number-preserved
loop-number-preserved c =
    among_next c.args.resolved.now c.args.self.now.goals c.leading-number-items.result.now c.loop-number.number-index (option_copied c.loop-number.least)
    (option_copied c.lesser-least.result) (option_copied c.job_with.result) _ (omega arith) c.lesser-least.ensures c.job_with.ensures c.loop-number.invariant

pub returns : goal.returns
returns c =
    among_done c.args.resolved.now c.args.self.now.goals c.leading-number-items.result.now c.loop-number.number-index
    (option_copied c.loop-number.least) _ (omega arith)
    c.loop-number.invariant
    ∙ ap (λ ns. least_from job_before (option_copied c.args.best) (jobs_among c.args.resolved.now c.args.self.now.goals ns)) c.leading-number-items.ensures
    ∙ ap (least_from job_before (option_copied c.args.best)) (rw c.scratch.ensures (led_among c.args.resolved.now c.args.self.now.owner c.args.self.now.goals))
