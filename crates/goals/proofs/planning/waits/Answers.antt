use Rattle.goals.proofs.StateLemmas.{few_of}
use Rattle.goals.proofs.planning.waits.Goals as goal

pub is_reached-requires : goal.is_reached-requires
is_reached-requires c = few_of c.args.state.now
