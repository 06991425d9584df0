-- What a book keeps.
use Rattle.std.specs.Prelude.{◌≡◌, ℕ, Bool, true, false, List, [], ◌∷◌, ◌++◌, All, Contains}
use Rattle.model.specs.Paths.{NoClash}
use Rattle.model.specs.Worlds.{Setup, nothing}
use Rattle.model.specs.Steps.{world_after, answers, reply_to}
use Rattle.model.specs.HashedTexts.{hashed}
use Rattle.model.specs.WellFormed.{AreWellFormed}
use Rattle.schedule.specs.declared.state.Core.{Core}
use Rattle.events.specs.declared.event.Event.{Event}
use Rattle.events.specs.declared.reply.Reply.{Reply}
use Rattle.schedule.specs.Standing.{world_of, setup_of, stored_in, IsUnchanged}
use Rattle.events.specs.Terms.{event_of, reply_of}
use Rattle.history.specs.declared.row.Row.{Row}
use Rattle.history.specs.Histories.{events_of, answers_of, unrecorded}
use Rattle.publishing.specs.Following.{HasReached}

-- a book as contracts see it: its core, its rows, and whether it is stopped
pub record Contents : Type 0 where
  pub core : Core
  pub rows : List Row
  pub stopped : Bool

-- a core that has taken no event
abbrev pub IsNew : Setup → Core → Type 0
IsNew setup core = (setup_of core ≡ setup) × (world_of core ≡ nothing) × (stored_in core ≡ [])

-- the events of the rows are well formed, and the replies are the model's, wherever texts have no clash and all that the events
-- hash is among them; and unless the book is stopped, the core is that of the world reached
pub record Kept (setup : Setup) (core : Core) (stopped : Bool) (rows : List Row) : Type 0 where
  pub given : setup_of core ≡ setup
  pub answered : All (λ r. unrecorded r.reply ≡ false) rows
  pub well_formed : AreWellFormed (events_of rows)
  pub told : (texts : List (List ℕ)) → NoClash texts → All (Contains texts) (hashed setup nothing (events_of rows))
      → answers_of rows ≡ answers setup nothing (events_of rows)
  pub reached : stopped ≡ false → (texts : List (List ℕ)) → NoClash texts → All (Contains texts) (hashed setup nothing (events_of rows))
      → HasReached setup core texts rows

-- ---- what a call changes

-- the book was not stopped, and is now
abbrev pub Stops : Contents → Contents → Type 0
Stops old new = (old.stopped ≡ false) × (new.stopped ≡ true)

-- the core is as it was, unless the book was stopped
abbrev pub KeepsCore : Contents → Contents → Type 0
KeepsCore old new = new.stopped ≡ old.stopped → IsUnchanged old.core new.core

-- ---- what a book tells

-- where no two texts that the events hash have one folded digest, the reply to one event more is the model's
abbrev pub IsModelReply : Setup → List Row → Event → Reply → Type 0
IsModelReply setup rows event reply =
    NoClash (hashed setup nothing (events_of rows ++ event_of event ∷ []))
    → reply_of reply ≡ reply_to setup (world_after setup nothing (events_of rows)) (event_of event)

-- where no two texts that the events hash have one folded digest, the core stands for the desks that they reach
abbrev pub StandsFor : Setup → Core → List Row → Type 0
StandsFor setup core rows = NoClash (hashed setup nothing (events_of rows)) → world_of core ≡ world_after setup nothing (events_of rows)
