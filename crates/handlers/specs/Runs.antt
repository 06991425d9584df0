-- What the parts of a store keep, from one event to the next.
use Rattle.std.specs.Prelude.{◌≡◌, true, length, All}
use Rattle.model.specs.Worlds.{are_users}
use Rattle.trust.specs.Naming.{IsWithin}
use Rattle.handlers.specs.Parts.{Parts}
use Rattle.handlers.specs.Sound.{IsSound, AreGoalsSound}
use Rattle.handlers.specs.Supported.{AreSupported}

-- the parts of a run: its users are a list of users, who trust each other alone; each has a desk within its limits whose paths are
-- stored, and sound goals, and what a goal that is being built is built from is on his desk
pub record IsRun (p : Parts) : Type 0 where
  pub paired : length p.desks ≡ length p.setup.users
  pub listed : are_users p.setup.users ≡ true
  pub within : IsWithin (length p.setup.users) p.trust
  pub sound : All (IsSound p.table p.setup.charge) p.desks
  pub with_goals : length p.goals ≡ length p.setup.users
  pub goals_sound : All (AreGoalsSound p.table) p.goals
  pub supported : AreSupported p.desks p.goals
