-- The history of a front, as a run of the model.
use Rattle.std.specs.Prelude.{◌≡◌, ℕ, Bool, false, List, [], ◌∷◌, ◌++◌, map, All}
use mathlib.Core.List.{IsPrefix}
use Rattle.model.specs.Paths.{NoClash}
use Rattle.model.specs.Worlds.{Setup, nothing}
use Rattle.model.specs.Events as events
use Rattle.model.specs.Replies as replies
use Rattle.model.specs.Steps.{world_after, reply_to}
use Rattle.model.specs.Replies.{is_unrecorded}
use Rattle.model.specs.WellFormed.{AreWellFormed}
use Rattle.model.specs.HashedTexts.{hashed}
use Rattle.model.specs.GivenClosures.{GivesGoodClosure, KeepsGoodClosure}
use Rattle.model.specs.Private.{ArePrivate}
use Rattle.events.specs.declared.event.Event.{Event}
use Rattle.events.specs.declared.reply.Reply.{Reply}
use Rattle.events.specs.Terms.{event_of, reply_of}
use Rattle.history.specs.declared.row.Row.{Row}
use Rattle.history.specs.Callers.{PassKnowledge, answered}

-- ---- rows in the terms of the model

abbrev pub row : ℕ → Event → Reply → Row
row pass event reply = record { pass = pass; event = event; reply = reply }

abbrev pub event_in : Row → events.Event
event_in r = event_of r.event

abbrev pub events_of : List Row → List events.Event
events_of rows = map event_in rows

abbrev pub answer_in : Row → replies.Answer
answer_in r = record { actor = r.event.actor; reply = reply_of r.reply }

abbrev pub answers_of : List Row → List replies.Answer
answers_of rows = map answer_in rows

-- ---- replies that have no row

-- whether a reply is that memory was refused, or that an earlier want of memory stopped the writer
abbrev pub unrecorded : Reply → Bool
unrecorded reply = is_unrecorded (reply_of reply)

-- ---- what a history says

-- a history that one caller could have made of private desks: its events are well formed, and where no two texts that they hash
-- have one folded digest, its answers are private
pub record IsLegal (setup : Setup) (rows : List Row) : Type 0 where
  pub well_formed : AreWellFormed (events_of rows)
  pub answered : All (λ r. unrecorded r.reply ≡ false) rows
  pub private : NoClash (hashed setup nothing (events_of rows)) → ArePrivate setup (events_of rows) (answers_of rows)

-- a call was answered: its row comes after rows that begin with what the pass had seen, and with it they are a legal history, of
-- which the pass is sure now, and which it has seen
pub record IsAnswered (setup : Setup) (old : PassKnowledge) (event : Event) (reply : Reply) (new : PassKnowledge) : Type 0 where
  pub before : List Row
  pub longer : IsPrefix old.seen before
  pub sure : new.caller ≡ answered old.caller (before ++ row old.caller.number event reply ∷ [])
  pub seen : new.seen ≡ before ++ row old.caller.number event reply ∷ []
  pub legal : IsLegal setup (before ++ row old.caller.number event reply ∷ [])

-- ---- what is read

-- where no two texts that the events of rows and one more hash have one folded digest, a reply to that one is the model's after these
-- rows, and the closure that is given then, or that a goal is built from, is good
pub record IsToldAfter (setup : Setup) (rows : List Row) (e : events.Event) (reply : replies.Reply) : Type 0 where
  pub same : NoClash (hashed setup nothing (events_of rows ++ e ∷ [])) → reply ≡ reply_to setup (world_after setup nothing (events_of rows)) e
  pub good : NoClash (hashed setup nothing (events_of rows ++ e ∷ []))
      → GivesGoodClosure setup (world_after setup nothing (events_of rows)) e × KeepsGoodClosure setup (world_after setup nothing (events_of rows)) e

-- what a pass of this number reads after rows: with it as one row more they are a legal history
abbrev pub IsReadAfter : Setup → ℕ → List Row → Event → Reply → Type 0
IsReadAfter setup number rows event reply = IsLegal setup (rows ++ row number event reply ∷ [])
