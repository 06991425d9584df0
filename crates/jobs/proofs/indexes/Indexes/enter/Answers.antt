use Rattle.std.proofs.Common.{ap}
use Rattle.jobs.proofs.IndexLemmas.{undone}
use Rattle.jobs.proofs.indexes.Indexes.enter.Goals as goal

pub returns-in-Err-clause-jobs : goal.returns-in-Err-clause-jobs
returns-in-Err-clause-jobs c = (
  c.in-Err.ensures.leading.0,
  undone c.args.job.now c.in_ok-clone.field-0 c.args.number c.args.self.now.of_jobs.entries c.insert_at.new.index.entries
      c.lead.new.self.of_jobs.entries c.remove_at.new.index.entries
      c.in_ok-clone.ensures.cases (ap (λ m. m.entries) c.lead.ensures.jobs) c.requires c.in_ok-insert_at.ensures c.remove_at.ensures.numbers,
)
