use Rattle.std.proofs.Common.{[]}
use Rattle.session.specs.Serving.{Link, Progress}
use Rattle.session.proofs.ProgressLemmas.{progress-none, early-other, by_output_fault, counted-ok, counted-err, counted-output}
use Rattle.session.proofs.RowLemmas.{on_ok, if_err}
use Rattle.session.proofs.serving.serve_behind.Goals as goal

pub returns-clause-ok : goal.returns-clause-ok
returns-clause-ok g c =
    let blank = g.W.Write.contents c.args.writer.now in
    let begun : Progress c.args.mode (Link g.A.Answer.answers g.A.Answer.waited) c.args.answer.now
    c.args.answer.now blank blank [] c.new-session.result c.new.result.items =
    rw (c.new.ensures.items, c.new-session.ensures) (progress-none (Link g.A.Answer.answers g.A.Answer.waited) c.args.answer.now blank) in
    counted-ok c.as_counted.result c.serve_by-ended.result _ c.as_counted.ensures.ok
    (on_ok c.serve_by-ended.result (λ h. (h.0, h.1, h.2, h.3 c.args.mode c.args.answer.now blank [] begun)) c.serve_by-ended.ensures.ok)

pub returns-clause-err : goal.returns-clause-err
returns-clause-err g c =
    let blank = g.W.Write.contents c.args.writer.now in
    let begun : Progress c.args.mode (Link g.A.Answer.answers g.A.Answer.waited) c.args.answer.now
    c.args.answer.now blank blank [] c.new-session.result c.new.result.items =
    rw (c.new.ensures.items, c.new-session.ensures) (progress-none (Link g.A.Answer.answers g.A.Answer.waited) c.args.answer.now blank) in
    counted-err c.as_counted.result c.serve_by-ended.result _ _ _ c.as_counted.ensures.err
    (if_err c.serve_by-ended.result (λ why h. (h.0, h.1, h.2 c.args.mode c.args.answer.now blank [] begun)) c.serve_by-ended.ensures.err)
    (λ h. (h.0, h.1, early-other _ _ _ _ _ _ _ _ by_output_fault h.2))

pub returns-clause-failed : goal.returns-clause-failed
returns-clause-failed g c =
    let blank = g.W.Write.contents c.args.writer.now in
    let begun : Progress c.args.mode (Link g.A.Answer.answers g.A.Answer.waited) c.args.answer.now
    c.args.answer.now blank blank [] c.new-session.result c.new.result.items =
    rw (c.new.ensures.items, c.new-session.ensures) (progress-none (Link g.A.Answer.answers g.A.Answer.waited) c.args.answer.now blank) in
    counted-err c.as_counted.result c.serve_by-ended.result _ _ _ c.as_counted.ensures.err
    (if_err c.serve_by-ended.result (λ why f is. let h = f is in (h.0, h.1, h.2 c.args.mode c.args.answer.now blank [] begun)) c.serve_by-ended.ensures.failed)
    (λ h is. cc)

pub returns-clause-counts : goal.returns-clause-counts
returns-clause-counts g c =
    let told = c.as_counted.result in
    let ended = c.serve_by-ended.result in
    let served = c.serve_by-ended.ensures in
    rw (← c.failures.ensures, ← c.failures-2.ensures) (record {
      whole = counted-ok told ended _ c.as_counted.ensures.ok served.whole;
      input_fault = counted-err told ended _ _ _ c.as_counted.ensures.err served.input_fault (λ h is. cc);
      output_fault = counted-output told ended _ _ c.as_counted.ensures.err served.output_fault;
      memory = c.as_counted.ensures.memory;
    })
