use Rattle.std.proofs.Common.{◌<◌, length, arith, ◌∙◌}
use Rattle.std.proofs.lemmas.List.{length-set}
use Rattle.trust.specs.Trusting.{holds, trusts, IsReach}
use Rattle.trust.proofs.RowLemmas.{one_more_word}
use Rattle.trust.proofs.pairs.reach_of_each.Goals as goal

pub loop-user-preserved : goal.loop-user-preserved
loop-user-preserved c =
    let so = c.loop-user.invariant in
    let long = so.1 in
    let test = c.loop-user-test.true in
    let inside : c.loop-user.user < length c.loop-user.reached = omega (arith, long, test) in (
      one_more_word (λ place word. IsReach (trusts c.args.rows.now) place (holds word)) c.loop-user.reached c.loop-user.user _ inside so.0 c.reach_of_one.ensures,
      length-set c.loop-user.reached c.loop-user.user _ ∙ long,
    )
