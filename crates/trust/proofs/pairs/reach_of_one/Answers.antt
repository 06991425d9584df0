use Rattle.trust.specs.Trusting.{trusts, holds}
use Rattle.trust.proofs.ReachLemmas.{reach_of_one}
use Rattle.trust.proofs.pairs.reach_of_one.Goals as goal

pub returns : goal.returns
returns c = reach_of_one (trusts c.args.rows.now) c.args.user (holds c.reach_of.result) c.requires c.reach_of.ensures
