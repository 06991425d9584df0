use Rattle.schedule.specs.Standing.{world_of, setup_of, stored_in}
use Rattle.schedule.proofs.state.Core.empty.Goals as goal

pub returns-clause-setup : goal.returns-clause-setup
unfolding setup_of
returns-clause-setup c = λ i. record { users = c.in_ok-state.ensures.users i; charge = (c.in_ok-state.ensures.limits i).charge }

pub returns-clause-world : goal.returns-clause-world
unfolding world_of
returns-clause-world c = c.in_ok-state.ensures.world

pub returns-clause-stored : goal.returns-clause-stored
unfolding stored_in
returns-clause-stored c = c.in_ok-state.ensures.stored
