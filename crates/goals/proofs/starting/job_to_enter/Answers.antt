use Rattle.std.proofs.Common.{◌∙◌, ap}
use Rattle.std.specs.Prelude.{option_copied}
use Rattle.trust.specs.Trusting.{holds}
use Rattle.trust.specs.Naming.{name_at}
use Rattle.model.specs.Worlds.{Job}
use Rattle.jobs.specs.Numbers.{own_job}
use Rattle.jobs.specs.Joining.{running_at}
use Rattle.jobs.proofs.JoinLemmas.{joined_least, joined_none}
use Rattle.goals.proofs.starting.job_to_enter.Goals as goal

pub returns-in_ok-clone-in-Some-clause-value : goal.returns-in_ok-clone-in-Some-clause-value
returns-in_ok-clone-in-Some-clause-value c =
    let jobs = c.args.state.now.jobs in
    let own : Job = own_job (name_at jobs.users c.args.planned.place) c.args.planned.number in
    record {
      set = holds c.joined.result;
      joins = c.joined.ensures;
      is = c.in_ok-clone-in-Some.ensures.cases
          ∙ joined_least own c.in-Some.job.now c.args.planned.resolved.now (running_at (holds c.joined.result) jobs) (option_copied c.join.result) c.join.ensures
          (ap option_copied c.in-Some.is);
    }

pub returns-in_ok-clone-in-None-clause-value : goal.returns-in_ok-clone-in-None-clause-value
returns-in_ok-clone-in-None-clause-value c =
    let jobs = c.args.state.now.jobs in
    let own : Job = own_job (name_at jobs.users c.args.planned.place) c.args.planned.number in
    record {
      set = holds c.joined.result;
      joins = c.joined.ensures;
      is = c.new.ensures ∙ ap (λ leader. own_job leader c.args.planned.number) (c.in_ok-clone-in-None.ensures.cases ∙ c.owner.ensures)
          ∙ joined_none own c.args.planned.resolved.now (running_at (holds c.joined.result) jobs) (option_copied c.join.result) c.join.ensures
          (ap option_copied c.in-None.is);
    }
