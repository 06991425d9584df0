use Rattle.std.proofs.Common.{refl, sym, ◌∙◌, subst, List, inl, inr}
use Rattle.teams.specs.declared.sessions.SessionOutput.{SessionOutput}
use Rattle.session.specs.Serving.{IsUnwritten}
use Rattle.files.specs.Outputs.{AppendsFront, texts_of}
use Rattle.app.proofs.runs.run_and_print.Goals as goal

pub returns-in-Err-clause-refused : goal.returns-in-Err-clause-refused
returns-in-Err-clause-refused g c = inl (refl, c.in-Err.ensures.refused)

pub returns-clause-refused : goal.returns-clause-refused
returns-clause-refused g c =
    inr (
      record {
        results = c.in-Ok.results;
        ran = c.in-Ok.ensures.ran;
        front =
            subst (λ (outputs : List SessionOutput). AppendsFront (g.W.Write.contents c.args.writer.now) (g.W.Write.contents c.print_all.new.writer)
            (texts_of outputs))
            c.as_slice.ensures.value c.in-Err-print_all.ensures.err;
        fault = subst IsUnwritten (sym c.of_none.ensures) c.in-Err-print_all.ensures.errors;
      },
      λ same. c.in-Err-print_all.ensures.fault (sym c.of_none.ensures ∙ same),
    )
