use Rattle.std.proofs.Common.{rules, ◌≡◌, ◌<◌, sym, subst, inl, inr}
use Rattle.std.specs.Prelude.{Err}
use Rattle.model.specs.declared.refusal.Refusal.{Refusal}
use Rattle.model.specs.declared.refusal.Refusal.TheVariants.{Quota}
use Rattle.running.specs.ServedSessions.{passes_needed}
use Rattle.app.specs.Runs.{CannotRun}
use Rattle.files.proofs.FileLemmas.{too_many}
use Rattle.app.proofs.runs.run_opened.Goals as goal
use Rattle.model.specs.Limits.{most_passes}

pub returns-in-Err-clause-refused : goal.returns-in-Err-clause-refused
returns-in-Err-clause-refused g c =
    let found = c.in_ok-users.field-0 in
    let full : most_passes < passes_needed found.parts.items → c.run_parts.result ≡ Err Quota = search rules in
    inr (inl (subst (λ (why : Refusal). CannotRun g.I.Read.remaining g.I.Faults.failed c.args.files.items why) (sym c.of_none.ensures) (record {
      users = found.users.items;
      parts = found.parts.items;
      parts_are = c.in_ok-users.ensures.parts;
      named = c.in_ok-users.ensures.users;
      begin = c.in-Err.ensures.why;
      bad_users = search rules;
      quota = search rules;
      full = too_many (passes_needed found.parts.items) c.run_parts.result c.in-Err.why c.in-Err.is full;
    })))
