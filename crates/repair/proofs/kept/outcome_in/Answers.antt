use Rattle.std.proofs.Common.{rules, ◌≡◌, Some, option_copied}
use Rattle.repair.proofs.RelabellingLemmas.{if_some}
use Rattle.repair.proofs.kept.outcome_in.Goals as goal

pub returns-clause-some : goal.returns-clause-some
returns-clause-some c =
    let there : option_copied c.args.kept ≡ Some c.in_ok-kept.field-0.now = search rules in
    if_some c.outcome_for.result _ _ (λ is. (c.in_ok-kept.field-0.now, there, is)) c.outcome_for.ensures.some
