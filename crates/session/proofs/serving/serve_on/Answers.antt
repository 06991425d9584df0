use Rattle.session.proofs.ProgressLemmas.{early-other, by_output_fault, counted-ok, counted-err, counted-output}
use Rattle.session.proofs.serving.serve_on.Goals as goal

pub returns-clause-err : goal.returns-clause-err
returns-clause-err g c =
    counted-err c.as_counted.result c.serve_by-ended.result _ _ _ c.as_counted.ensures.err
    (rw (c.new.ensures.items, c.deref.ensures.value) at c.serve_by-ended.ensures.err)
    (λ h. (h.0, h.1, λ mode first blank input p. early-other _ _ _ _ _ _ _ _ by_output_fault (h.2 mode first blank input p)))

pub returns-clause-failed : goal.returns-clause-failed
returns-clause-failed g c =
    counted-err c.as_counted.result c.serve_by-ended.result _ _ _ c.as_counted.ensures.err
    (rw (c.new.ensures.items, c.deref.ensures.value) at c.serve_by-ended.ensures.failed)
    (λ h is. cc)

pub returns-clause-counts : goal.returns-clause-counts
returns-clause-counts g c =
    let told = c.as_counted.result in
    let ended = c.serve_by-ended.result in
    let served = c.serve_by-ended.ensures in
    record {
      whole = counted-ok told ended _ c.as_counted.ensures.ok served.whole;
      input_fault = counted-err told ended _ _ _ c.as_counted.ensures.err served.input_fault (λ h is. cc);
      output_fault = counted-output told ended _ _ c.as_counted.ensures.err served.output_fault;
      memory = c.as_counted.ensures.memory;
    }
