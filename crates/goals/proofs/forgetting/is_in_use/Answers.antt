use Rattle.goals.proofs.StateLemmas.{few_of}
use Rattle.goals.proofs.forgetting.is_in_use.Goals as goal

pub build_with-requires-clause-few : goal.build_with-requires-clause-few
build_with-requires-clause-few c = few_of c.args.state.now
