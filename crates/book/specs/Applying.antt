-- What the call of a pass does to a book, and to the pass.
use Rattle.std.specs.Prelude.{◌≡◌, ◌≢◌, ◌+◌, ℕ, true, false, [], ◌∷◌, ◌++◌}
use mathlib.Core.List.{IsPrefix}
use Rattle.model.specs.declared.refusal.Refusal.TheVariants.{Memory, Stopped}
use Rattle.model.specs.Worlds.{Setup}
use Rattle.events.specs.declared.event.Event.{Event}
use Rattle.events.specs.declared.reply.Reply.{Reply}
use Rattle.events.specs.declared.reply.Reply.TheVariants.{Refused}
use Rattle.history.specs.Callers.{Caller, PassKnowledge, answered, told_stopped, stops_of, Matches}
use Rattle.history.specs.Histories.{unrecorded, IsLegal, IsAnswered}
use Rattle.history.specs.Histories as histories
use Rattle.book.specs.Keeping.{Contents, IsModelReply, Stops, KeepsCore}
use Rattle.cores.specs.Turns.{Steps, TookEvent}

-- an event of a caller is answered by a book of so many parts, one for each caller; stops are how many of his calls stopped it
pub record IsApplied
    (setup : Setup) (parts : ℕ) (event : Event) (result : Reply) (old : Contents) (before : Caller) (stops_before : ℕ) (new : Contents) (after : Caller) (stops_after : ℕ)
    : Type 0 where
  -- a reply has a row, and is the core's and the model's
  pub row : unrecorded result ≡ false → new.rows ≡ old.rows ++ histories.row before.number event result ∷ []
  pub step : unrecorded result ≡ false → Steps old.core event result new.core
  pub reply : unrecorded result ≡ false → IsModelReply setup old.rows event result
  pub counted : unrecorded result ≡ false → after ≡ answered before new.rows
  pub matches : Matches old.rows old.stopped before
  -- the only caller knows all rows
  pub alone : parts ≡ 1 → before.sure ≡ old.rows
  pub no_row : unrecorded result ≡ true → new.rows ≡ old.rows
  pub memory : result ≡ Refused Memory → after ≡ before
  pub unchanged : unrecorded result ≡ true → KeepsCore old new
  pub stopped : old.stopped ≡ true → result ≡ Refused Stopped
  pub stays : old.stopped ≡ true → new ≡ old
  pub only_then : result ≡ Refused Stopped → old.stopped ≡ true
  pub told : result ≡ Refused Stopped → after ≡ told_stopped before
  -- memory that is refused once the core has taken the event stops the book
  pub stops : Stops old new → result ≡ Refused Memory
  pub taken : Stops old new → TookEvent old.core event new.core
  pub counted_stop : Stops old new → stops_after ≡ stops_before + 1
  pub no_stop : result ≢ Refused Memory → stops_after ≡ stops_before
  -- the only caller knows whether the book is stopped: a call of his own stopped it
  pub stops_alone : parts ≡ 1 → stops_before ≡ stops_of old.stopped
  pub legal : IsLegal setup new.rows

-- an event of a pass was answered by the front, of so many passes, under its lock
pub record HasCalled (setup : Setup) (parts : ℕ) (old : PassKnowledge) (event : Event) (result : Reply) (new : PassKnowledge) : Type 0 where
  pub answered : unrecorded result ≡ false → IsAnswered setup old event result new
  -- the only pass is sure of what it was sure of, and of this row
  pub alone : unrecorded result ≡ false → parts ≡ 1 → new.caller.sure ≡ old.caller.sure ++ histories.row old.caller.number event result ∷ []
  pub memory : result ≡ Refused Memory → new.caller ≡ old.caller
  pub stopped : result ≡ Refused Stopped → new.caller ≡ told_stopped old.caller
  pub seen : IsPrefix old.seen new.seen
  pub no_stop : result ≢ Refused Memory → new.stops ≡ old.stops
  pub stopped_alone : parts ≡ 1 → result ≡ Refused Stopped → old.stops ≡ 1
