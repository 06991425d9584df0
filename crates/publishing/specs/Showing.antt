-- What a snapshot shows.
use Rattle.std.specs.Prelude.{List}
use Rattle.logbook.specs.Pages.{Book}
use Rattle.schedule.specs.declared.state.Core.{Core}
use Rattle.schedule.specs.Standing.{setup_of}
use Rattle.history.specs.declared.row.Row.{Row}
use Rattle.publishing.specs.declared.law.Shown.{Shown}
use Rattle.publishing.specs.FrontNames.{name_of}

-- what is shown of a core with these rows of a history
abbrev pub showing : Core → Book → List Row → Shown
showing core book rows = record { core = core; seen = rows; name = name_of book (setup_of core) }
