-- What calls through a pass leave in the history of a front.
use Rattle.std.specs.Prelude.{◌≡◌, ◌≢◌, ◌⊎◌, ℕ, ◌==◌, Bool, true, false, not, ◌&&◌, if◌then◌else◌, List, [], ◌∷◌, ◌++◌, filter, MatchBool}
use mathlib.Core.List.{IsPrefix}
use Rattle.model.specs.declared.refusal.Refusal.TheVariants.{Memory, Stopped}
use Rattle.model.specs.Worlds.{Setup}
use Rattle.model.specs.Events.{is_query}
use Rattle.events.specs.Terms.{request_of}
use Rattle.events.specs.declared.event.Event.{Event}
use Rattle.events.specs.declared.reply.Reply.{Reply}
use Rattle.events.specs.declared.reply.Reply.TheVariants.{Refused}
use Rattle.history.specs.declared.row.Row.{Row}
use Rattle.history.specs.Callers.{PassKnowledge, told_stopped, seeing, rows_of}
use Rattle.builder.specs.Working.{Call}
use Rattle.history.specs.Histories.{row, unrecorded, IsAnswered, IsReadAfter}

-- ---- one call

-- whether an event is only read
abbrev pub is_read : Event → Bool
is_read event = is_query (request_of event.request)

-- whether a call has a row: it was answered otherwise than with 90 and 92, and is not only read
abbrev pub has_row : Call → Bool
has_row c = not (unrecorded c.1) && not (is_read c.0)

-- a pass has seen what it is sure of, and its calls are counted
pub record IsCounted (p : PassKnowledge) : Type 0 where
  pub seen : IsPrefix p.caller.sure p.seen
  pub rows : rows_of p.caller.number p.caller.sure ≡ p.caller.calls

-- an event was handed to a front through a pass. What is only read is answered after rows that begin with all that the pass had seen, and
-- are what it has seen then, and else the pass is as it was; any other event has its row, which is the last of the sure rows, at any reply
-- but 90 and 92: at 90 the pass is as it was, but that it may have stopped the front, and at 92 it knows that the front is stopped
pub record IsTold (setup : Setup) (old : PassKnowledge) (event : Event) (reply : Reply) (new : PassKnowledge) : Type 0 where
  pub answered : has_row (event, reply) ≡ true → IsAnswered setup old event reply new
  pub read : is_read event ≡ true → unrecorded reply ≡ false → IsReadAfter setup old.caller.number new.seen event reply
  pub only_read : is_read event ≡ true → (new ≡ seeing old new.seen) × (reply ≢ Refused Stopped)
  pub memory : reply ≡ Refused Memory → new.caller ≡ old.caller
  pub stopped : reply ≡ Refused Stopped → new.caller ≡ told_stopped old.caller
  pub remains : is_read event ≡ false → old.caller.stopped ≡ true → (reply ≡ Refused Stopped) ⊎ (reply ≡ Refused Memory)
  pub no_stop : reply ≢ Refused Memory → new.stops ≡ old.stops
  pub seen : IsPrefix old.seen new.seen
  pub before : IsCounted old
  pub after : IsCounted new

-- ---- all calls of a pass, in a history

-- the rows of the pass of a number
abbrev pub own_rows : ℕ → List Row → List Row
own_rows number rows = filter (λ r. r.pass == number) rows

-- the rows of calls through it
abbrev pub rows_for : ℕ → List Call → List Row
rows_for number [] = []
rows_for number (c ∷ cs) = if has_row c then row number c.0 c.1 ∷ rows_for number cs else rows_for number cs

-- a call was answered behind all that was known: what is only read after these rows, and any other event by the last of them
abbrev pub IsAnsweredBy : Setup → ℕ → List Row → Call → List Row → Type 0
IsAnsweredBy setup number known c rows = MatchBool (is_read c.0)
    (IsPrefix known rows × IsReadAfter setup number rows c.0 c.1)
    ((before : List Row) × IsPrefix known before × (rows ≡ before ++ row number c.0 c.1 ∷ []))

-- calls were answered one after another by beginnings of a history, each of which begins with the one before
abbrev pub AnsweredInOrder : Setup → List Row → ℕ → List Row → List Call → Type 0
AnsweredInOrder setup history number known [] = Unit {0}
AnsweredInOrder setup history number known (c ∷ cs) = MatchBool (unrecorded c.1)
    (AnsweredInOrder setup history number known cs)
    ((rows : List Row) × IsPrefix rows history × IsAnsweredBy setup number known c rows × AnsweredInOrder setup history number rows cs)

-- the calls of a pass stand in a history: its rows are those of its calls, in their order, and no other; and each call was answered by a
-- beginning of the history that has all that the pass was answered before
pub record Stand (setup : Setup) (history : List Row) (number : ℕ) (calls : List Call) : Type 0 where
  pub own : own_rows number history ≡ rows_for number calls
  pub order : AnsweredInOrder setup history number [] calls
