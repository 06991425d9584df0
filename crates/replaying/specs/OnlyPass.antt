-- What the one pass of a store is told.
use Rattle.std.specs.Prelude.{◌≡◌, Bool, true, false, not, ◌&&◌, ◌||◌, if◌then◌else◌, List, [], ◌∷◌, ◌++◌}
use Rattle.model.specs.Worlds.{Setup, Job}
use Rattle.model.specs.Events.{is_query, Event}
use Rattle.model.specs.Replies as replies
use Rattle.model.specs.Replies.{Reply, is_refusal, is_stopped_refusal, is_memory, is_unrecorded}
use Rattle.events.specs.Terms.{reply_of}
use Rattle.history.specs.declared.row.Row.{Row}
use Rattle.history.specs.Callers.{PassKnowledge}
use Rattle.history.specs.Histories.{event_in, IsLegal}

-- a store as its one pass knows it: the rows that the pass is sure of, which are the whole history; whether memory was refused
-- to one of its events that are no queries; and whether it was told that the store is stopped
pub record Only : Type 0 where
  pub sure : List Row
  pub has_lacked : Bool
  pub has_stopped : Bool

-- one that was asked nothing
abbrev pub unasked : Only
unasked = record { sure = []; has_lacked = false; has_stopped = false }

-- what a pass knows, and whether memory was refused to one of its calls
abbrev pub known_by : PassKnowledge → Bool → Only
known_by pass has_lacked = record { sure = pass.caller.sure; has_lacked = has_lacked; has_stopped = pass.caller.stopped }

-- whether memory was refused to an event that is no query
abbrev pub lacks_memory : Event → Reply → Bool
lacks_memory event reply = not (is_query event.request) && is_memory reply

-- whether a reply says that the store is stopped
abbrev pub says_stopped : Reply → Bool
says_stopped = is_refusal is_stopped_refusal

-- the history after an event that is answered by a row, which it has unless the event is a query
abbrev pub history_after : List Row → Event → Row → List Row
history_after rows event last = if is_query event.request then rows else rows ++ last ∷ []

-- what an event is told by the one pass of a store
pub record IsOnlyAnswer (setup : Setup) (old : Only) (event : Event) (reply : Reply) (new : Only) : Type 0 where
  -- with it as the next row the history is legal
  pub row : is_unrecorded reply ≡ false → (last : Row) × (event_in last ≡ event) × (reply_of last.reply ≡ reply)
      × IsLegal setup (old.sure ++ last ∷ []) × (new.sure ≡ history_after old.sure event last)
  pub kept : is_unrecorded reply ≡ true → new.sure ≡ old.sure
  pub lacked : new.has_lacked ≡ (old.has_lacked || lacks_memory event reply)
  -- no query is told that the store is stopped, and no event before memory was refused
  pub stopped : says_stopped reply ≡ true → (is_query event.request ≡ false) × (old.has_lacked ≡ true) × (new.has_stopped ≡ true)
  -- where it was told, each event that is no query is told so, or that memory was refused
  pub remains : old.has_stopped ≡ true → (new.has_stopped ≡ true) × (is_query event.request ≡ false → is_unrecorded reply ≡ true)

-- a wait does nothing, since no line of the service waits
abbrev pub DoesNothing : Only → List Job → Reply → Only → Type 0
DoesNothing old goals reply new = (new ≡ old) × (reply ≡ replies.Ok)
