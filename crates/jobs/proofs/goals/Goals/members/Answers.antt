use Rattle.std.proofs.Common.{◌∙◌, ap}
use Rattle.model.specs.Goals.{members}
use Rattle.jobs.specs.Owned.{Owned}
use Rattle.jobs.proofs.NumberLemmas.{members_are}
use Rattle.jobs.proofs.goals.Goals.members.Goals as goal

pub returns : goal.returns
returns c =
    c.of_job.ensures ∙ c.self.invariant.1.of_jobs c.args.job.now ∙ members_are c.args.job.now 1 c.self.inside.goals.items
    ∙ ap (λ (v : Owned). members c.args.job.now 1 v.goals) c.self.view_is
