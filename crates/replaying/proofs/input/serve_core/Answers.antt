use Rattle.std.proofs.Common.{rules, ◌++◌}
use Rattle.model.specs.declared.mode.Mode.TheVariants.{Service}
use Rattle.session.proofs.RowLemmas.{err-is, on_ok, if_err}
use Rattle.session.proofs.ProgressLemmas.{by_memory}
use Rattle.replaying.proofs.HeadLemmas.{none_serves, read_behind, store_begins}
use Rattle.replaying.proofs.input.serve_core.Goals as goal

pub returns-in_err-front-clause-err : goal.returns-in_err-front-clause-err
returns-in_err-front-clause-err g c = err-is _ _ _ c.from_residual.ensures.1 (none_serves _ _ _ _ _ _ (by_memory _ c.in_err-front.ensures.memory))

pub returns-clause-ok : goal.returns-clause-ok
returns-clause-ok g c = on_ok c.serve_on-ended.result (λ h start blank front a. record {
  input = front ++ (c.args.begun.rest.items ++ h.0);
  read = read_behind start _ _ blank _ front _ _ h.0 a h.1;
  ended = h.2;
  first = _;
  last = _;
  new = search rules;
  done = h.3 Service _ blank front (store_begins _ _ start _ blank _ front _ _ a);
}) c.serve_on-ended.ensures.ok

pub returns-clause-err : goal.returns-clause-err
returns-clause-err g c = if_err c.serve_on-ended.result (λ why h start blank front a. record {
  input = front ++ (c.args.begun.rest.items ++ h.0);
  read = read_behind start _ _ blank _ front _ _ h.0 a h.1;
  first = _;
  last = _;
  new = search rules;
  done = h.2 Service _ blank front (store_begins _ _ start _ blank _ front _ _ a);
}) c.serve_on-ended.ensures.err

pub returns-clause-failed : goal.returns-clause-failed
returns-clause-failed g c = if_err c.serve_on-ended.result (λ why f failed start blank front a.
    let h = f failed in
    record {
      input = front ++ (c.args.begun.rest.items ++ h.0);
      read = read_behind start _ _ blank _ front _ _ h.0 a h.1;
      first = _;
      last = _;
      new = search rules;
      done = h.2 Service _ blank front (store_begins _ _ start _ blank _ front _ _ a);
    }) c.serve_on-ended.ensures.failed
