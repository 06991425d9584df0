use Rattle.std.proofs.Common.{refl}
use Rattle.schedule.specs.Standing.{setup_of, world_of, stored_in}
use Rattle.schedule.proofs.state.Core.empty_cache.Goals as goal

pub returns : goal.returns
unfolding setup_of world_of stored_in
returns c = record { setup = refl; world = refl; stored = refl }
