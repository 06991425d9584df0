-- A core that takes an event, and what one core lacks of another.
use Rattle.std.specs.Prelude.{◌≡◌, ◌||◌, Bool}
use Rattle.std.specs.Arc.{arc_value}
use Rattle.model.specs.Events as events
use Rattle.model.specs.Events.{is_query}
use Rattle.model.specs.Replies.{is_refused}
use Rattle.model.specs.Steps.{after}
use Rattle.store.specs.Stored.{kept_at}
use Rattle.handlers.specs.Parts.{stored_after}
use Rattle.events.specs.declared.event.Event.{Event}
use Rattle.events.specs.declared.reply.Reply.{Reply}
use Rattle.events.specs.Terms.{event_of, reply_of}
use Rattle.schedule.specs.declared.state.Core.{Core}
use Rattle.schedule.specs.Standing.{world_of, setup_of, stored_in, IsUnchanged}
use Rattle.schedule.specs.Stepping.{IsCoreStep}
use Rattle.schedule.specs.Sweeping.{is_held}
use Rattle.history.specs.Histories.{event_in}
use Rattle.history.specs.declared.row.Row as rows
use Rattle.cores.specs.declared.lag.Lag.{Lag}
use Rattle.cores.specs.declared.lag.Lag.TheVariants.{Nothing, Row, Sweep, Unknown}

-- the core takes the event, gives the reply and becomes the new one
abbrev pub Steps : Core → Event → Reply → Core → Type 0
Steps old event reply new = IsCoreStep old (event_of event) (reply_of reply) new

-- the core has taken an event
pub record TookEvent (old : Core) (event : Event) (new : Core) : Type 0 where
  pub reply : Reply
  pub step : Steps old event reply new

-- a core that has taken an event which was not refused
pub record HasTaken (old : Core) (event : events.Event) (new : Core) : Type 0 where
  pub setup : setup_of new ≡ setup_of old
  pub world : world_of new ≡ after (setup_of old) (world_of old) event
  pub stored : stored_in new ≡ stored_after (setup_of old) (world_of old) event (stored_in old)

-- a core that was swept
pub record IsSwept (old new : Core) : Type 0 where
  pub setup : setup_of new ≡ setup_of old
  pub world : world_of new ≡ world_of old
  pub stored : stored_in new ≡ kept_at (is_held old) (stored_in old)

-- a core that took the event of a row is as it was: the event was refused, or asks for what is there
abbrev pub changes_nothing : rows.Row → Bool
changes_nothing row = is_refused (reply_of row.reply) || is_query (event_in row).request

-- a core is as another one will be that takes what it lacks
abbrev pub Behind : Lag → Core → Core → Type 0
Behind Nothing other shown = IsUnchanged other shown
Behind (Row row) other shown = HasTaken other (event_in (arc_value row)) shown
Behind Sweep other shown = IsSwept other shown
Behind Unknown other shown = Unit {0}

-- a core that lacks something of another one becomes as that
abbrev pub CatchesUp : Lag → Core → Core → Type 0
CatchesUp lag old new = (shown : Core) → Behind lag old shown → IsUnchanged shown new
