-- The law of good closures.
use Rattle.std.specs.Prelude.{List}
use Rattle.model.specs.Paths.{NoClash}
use Rattle.model.specs.Worlds.{Setup, nothing}
use Rattle.model.specs.Events.{Event}
use Rattle.model.specs.WellFormed.{AreWellFormed}
use Rattle.model.specs.HashedTexts.{hashed}
use Rattle.model.specs.GivenClosures.{GiveGoodClosures}

-- each closure that a user is given, or that a goal keeps once it is planned, is good, where no two texts that the events hash have one folded digest
abbrev pub ClosuresAreGood : Type 0
ClosuresAreGood = (setup : Setup) (events : List Event)
    → AreWellFormed events → NoClash (hashed setup nothing events) → GiveGoodClosures setup nothing events
