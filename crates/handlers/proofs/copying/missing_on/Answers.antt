use Rattle.std.proofs.Common.{◌≡◌, ◌≤◌, length, subst, arith}
use Rattle.std.proofs.lemmas.Result.{IfOk-from_err}
use Rattle.model.specs.declared.refusal.Refusal.TheVariants.{Memory}
use Rattle.model.specs.Archives.{Tree, nar}
use Rattle.handlers.proofs.MissingLemmas.{if_err, missing_next, missing_done}
use Rattle.handlers.proofs.copying.missing_on.Goals as goal

pub loop-entry-preserved : goal.loop-entry-preserved
loop-entry-preserved c =
    let bytes = subst (λ (t : Tree). length (nar t) ≤ 67108864) c.tree.ensures c.nar_len-bytes.ensures.tree.length in
    missing_next c.args.desk.now c.args.entries.now c.loop-entry.entry-index c.entry-item.result c.in_ok-missing.missing c.loop-entry.found.items _ _
    c.loop-entry-test.true
    c.entry-item.is c.in_ok-missing.ensures (grind arith) bytes c.loop-entry.invariant.found c.loop-entry.invariant.small

pub returns-in_err-missing-clause-found : goal.returns-in_err-missing-clause-found
returns-in_err-missing-clause-found c = IfOk-from_err _ _ c.from_residual.ensures.0

pub returns-in_err-missing-clause-small : goal.returns-in_err-missing-clause-small
returns-in_err-missing-clause-small c = IfOk-from_err _ _ c.from_residual.ensures.0

pub returns-in_err-missing-clause-memory : goal.returns-in_err-missing-clause-memory
returns-in_err-missing-clause-memory c = if_err c.from_residual.result (λ e. e ≡ Memory) c.from_residual.ensures.1

pub returns-in_err-push-clause-found : goal.returns-in_err-push-clause-found
returns-in_err-push-clause-found c = IfOk-from_err _ _ c.from_residual-in_err-push.ensures.0

pub returns-in_err-push-clause-small : goal.returns-in_err-push-clause-small
returns-in_err-push-clause-small c = IfOk-from_err _ _ c.from_residual-in_err-push.ensures.0

pub returns-in_err-push-clause-memory : goal.returns-in_err-push-clause-memory
returns-in_err-push-clause-memory c = if_err c.from_residual-in_err-push.result (λ e. e ≡ Memory) c.from_residual-in_err-push.ensures.1

pub returns-clause-found : goal.returns-clause-found
returns-clause-found c =
    missing_done c.args.desk.now c.args.entries.now c.loop-entry.entry-index c.loop-entry.found.items _ c.loop-entry-test.false c.loop-entry.invariant.found

pub returns-clause-small : goal.returns-clause-small
returns-clause-small c = c.loop-entry.invariant.small
