-- What a book publishes.
use Rattle.std.specs.Prelude.{◌≡◌, Bool, List}
use Rattle.model.specs.Worlds.{Setup}
use Rattle.schedule.specs.declared.state.Core.{Core}
use Rattle.schedule.specs.Standing.{setup_of}
use Rattle.history.specs.declared.row.Row.{Row}
use Rattle.history.specs.Histories.{IsLegal}
use Rattle.publishing.specs.Following.{Follows}

-- the core and the rows that are published, and whether others can be
pub record Published : Type 0 where
  pub core : Core
  pub rows : List Row
  pub whole : Bool

-- a core of a run may be published with rows: it has taken their events, and they are a legal history
pub record IsFollowing (setup : Setup) (core : Core) (rows : List Row) : Type 0 where
  pub given : setup_of core ≡ setup
  pub follows : Follows setup core rows
  pub legal : IsLegal setup rows
