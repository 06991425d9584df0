use Rattle.std.proofs.Common.{[]}
use Rattle.session.specs.Serving.{Link, Progress}
use Rattle.session.proofs.ProgressLemmas.{progress-none, early-other, by_output_fault, counted-ok, counted-err}
use Rattle.session.proofs.RowLemmas.{on_ok, if_err}
use Rattle.session.proofs.serving.serve_whole_lines.Goals as goal

pub returns-clause-ok : goal.returns-clause-ok
returns-clause-ok g c =
    let blank = g.W.Write.contents c.args.writer.now in
    let begun : Progress c.args.mode (Link g.A.Answer.answers g.A.Answer.waited) c.args.answer.now
    c.args.answer.now blank blank [] c.new-session.result c.new.result.items =
    rw (c.new.ensures.items, c.new-session.ensures) (progress-none (Link g.A.Answer.answers g.A.Answer.waited) c.args.answer.now blank) in
    counted-ok c.as_counted.result c.feed-ended.result _ c.as_counted.ensures.ok
    (on_ok c.feed-ended.result (λ h. (h c.args.mode c.args.answer.now blank [] begun).so_far) c.feed-ended.ensures.ok)

pub returns-clause-err : goal.returns-clause-err
returns-clause-err g c =
    let blank = g.W.Write.contents c.args.writer.now in
    let begun : Progress c.args.mode (Link g.A.Answer.answers g.A.Answer.waited) c.args.answer.now
    c.args.answer.now blank blank [] c.new-session.result c.new.result.items =
    rw (c.new.ensures.items, c.new-session.ensures) (progress-none (Link g.A.Answer.answers g.A.Answer.waited) c.args.answer.now blank) in
    counted-err c.as_counted.result c.feed-ended.result _ _ _ c.as_counted.ensures.err
    (if_err c.feed-ended.result (λ why h. h c.args.mode c.args.answer.now blank [] begun) c.feed-ended.ensures.err)
    (λ h. early-other _ _ _ _ _ _ _ _ by_output_fault h)
