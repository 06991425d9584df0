use Rattle.schedule.specs.Standing.{stored_in}
use Rattle.schedule.proofs.state.Core.stored.Goals as goal

pub returns : goal.returns
unfolding stored_in
returns c = c.len.ensures
