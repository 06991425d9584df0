use Rattle.std.proofs.Common.{sym, ◌∙◌}
use Rattle.std.proofs.lemmas.Result.{err_from_is_err_and}
use Rattle.model.specs.Worlds.{Job}
use Rattle.model.specs.Goals.{goal_at}
use Rattle.jobs.specs.Owned.{goals_at}
use Rattle.trust.specs.Naming.{name_at}
use Rattle.jobs.proofs.LedLemmas.{is_refused}
use Rattle.jobs.proofs.running.led_job.Goals as goal

pub returns-in_err-leads : goal.returns-in_err-leads
returns-in_err-leads c =
    let p = err_from_is_err_and c.from_residual.result c.from_residual.ensures.1 in
    let job : Job = record { leader = name_at c.args.users.now c.args.place; number = c.args.number } in
    rw (p.1, p.2) (is_refused job (goal_at c.args.number (goals_at c.args.place c.args.jobs.now)) c.in_err-leads.field-0.0 (sym c.leads.ensures ∙ c.in_err-leads.was))
