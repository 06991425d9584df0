use Rattle.std.proofs.Common.{◌≡◌, subst, List, inl, inr}
use Rattle.teams.specs.declared.sessions.SessionOutput.{SessionOutput}
use Rattle.messages.specs.Ends.{status_of_end}
use Rattle.files.specs.Outputs.{first_end}
use Rattle.app.proofs.runs.run_files.Goals as goal

pub returns-in-Ok : goal.returns-in-Ok
returns-in-Ok g c =
    inl (record {
      results = c.in-Ok.field-0;
      ran = c.in-Ok.ensures.ran;
      status_is =
          subst (λ (outputs : List SessionOutput). c.report_all.result ≡ status_of_end (first_end outputs)) c.as_slice-in-Ok-2.ensures.value
          c.report_all.ensures;
    })

pub returns : goal.returns
returns g c =
    inr (record {
      refused = c.in-Err.refused;
      by = elim c.in-Err.ensures.refused [ inl not_run ↦ inl not_run.1 | inr not_printed ↦ inr not_printed.0 ];
      status_is = c.report_refused.ensures;
    })
