use Rattle.std.proofs.Common.{refl, ◌∙◌, ap}
use Rattle.running.specs.ServedSessions.{first_workers}
use Rattle.running.proofs.pass_lists.session_for.Goals as goal

pub returns-clause-session : goal.returns-clause-session
returns-clause-session g c = record {
  bytes = refl;
  reader = refl;
  store = c.in_ok-own.ensures.pass;
  workers = c.in_ok-workers.ensures.workers ∙ ap (λ n. first_workers n c.args.part.runners.items) c.in_ok-own.ensures.count;
}
