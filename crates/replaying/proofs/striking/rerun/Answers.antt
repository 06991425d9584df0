use Rattle.replaying.proofs.LawLemmas.{run_again}
use Rattle.std.proofs.Common.{inr}
use Rattle.session.proofs.RowLemmas.{err-is, if_err}
use Rattle.replaying.proofs.UnnamedLemmas.{untold_by}
use Rattle.replaying.proofs.striking.rerun.Goals as goal

pub returns-clause-given : goal.returns-clause-given
returns-clause-given c =
    run_again _ c.args.user.now c.args.timed _ c.in_ok-kept.kept.items c.run.result (rw c.as_slice.ensures.value at (c.in_ok-kept.ensures.kept c.args.settings.limits.charge))
    c.run.ensures.steps c.run.ensures.private

pub returns-in_err-kept-clause-refused : goal.returns-in_err-kept-clause-refused
returns-in_err-kept-clause-refused c =
    err-is _ _ _ c.from_residual.ensures.1 (inr (rw c.as_slice.ensures.value at c.in_err-kept.ensures.refused))

pub returns-clause-refused : goal.returns-clause-refused
returns-clause-refused c = if_err c.run.result (λ why refused. untold_by _ c.args.user.now why refused) c.run.ensures.refused
