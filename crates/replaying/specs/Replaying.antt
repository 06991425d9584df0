-- What the lines of a file mean for the store of the program.
use Rattle.std.specs.Prelude.{◌≡◌, ◌⊎◌, true, false, not, ℕ, List, [], ◌∷◌, ◌++◌, map, filter, All, Option, MatchOption, take}
use Rattle.std.specs.List.{list_any}
use mathlib.Core.List.{IsPrefix}
use Rattle.std.specs.Io.KnownBytes.{Appends, Consumes, IsAtEnd}
use Rattle.model.specs.declared.mode.Mode.TheVariants.{Service}
use Rattle.model.specs.declared.refusal.Refusal.{Refusal}
use Rattle.model.specs.declared.refusal.Refusal.TheVariants.{BadUsers, OutputFault}
use Rattle.model.specs.Worlds.{Setup}
use Rattle.model.specs.Events.{is_query, Event}
use Rattle.model.specs.Replies.{Reply, is_unrecorded}
use Rattle.model.specs.Lines.{lines_of}
use Rattle.model.specs.Talk as talk
use Rattle.model.specs.Talk.{fresh, after_all, Talks, text_from, asked_in, users_in}
use Rattle.events.specs.Terms.{reply_of}
use Rattle.session.specs.Serving.{Link, Finished, EndedEarly, HasRefused}
use Rattle.history.specs.declared.row.Row.{Row}
use Rattle.history.specs.Histories.{event_in, IsLegal}
use Rattle.replaying.specs.OnlyPass.{Only, unasked, lacks_memory, says_stopped, IsOnlyAnswer, DoesNothing}

-- the events that the lines made, with their replies, but for those that were answered 90 or 92
abbrev pub recorded_in : List talk.LineRow → List (Event × Reply)
recorded_in rows = filter (λ p. not (is_unrecorded p.1)) (asked_in rows)

-- a row of a history in the terms of the model
abbrev pub pair_of : Row → Event × Reply
pair_of r = (event_in r, reply_of r.reply)

-- one legal history has just these events with these replies, in their order
pub record IsOneHistory (setup : Setup) (pairs : List (Event × Reply)) : Type 0 where
  pub history : List Row
  pub is : map pair_of history ≡ pairs
  pub legal : IsLegal setup history

-- what is so where an event was told that the store is stopped: it was no query; memory had been refused to an event before that was
-- none; and each later event that is none was told 90 or 92
pub record IsStopped (before : List (Event × Reply)) (event : Event) (later : List (Event × Reply)) : Type 0 where
  pub called : is_query event.request ≡ false
  pub cause : list_any (λ p. lacks_memory p.0 p.1) before ≡ true
  pub remains : All (λ p. is_query p.0.request ≡ false → is_unrecorded p.1 ≡ true) later

-- a store is stopped by want of memory alone, and answers nothing but queries then
abbrev pub StopsByMemory : List (Event × Reply) → Type 0
StopsByMemory pairs = (before later : List (Event × Reply)) (event : Event) (reply : Reply) → pairs ≡ before ++ (event, reply) ∷ later
    → says_stopped reply ≡ true → IsStopped before event later

-- one store answered all lines: one legal history has the events that were recorded, queries among them where they were read, and the store
-- was stopped by want of memory alone
pub record AreOfOneStore (setup : Setup) (rows : List talk.LineRow) : Type 0 where
  pub recorded : IsOneHistory setup (recorded_in rows)
  pub stopped : StopsByMemory (asked_in rows)

-- the replies are those of one store, for the users whom the lines name and under that charge; where they name none, no event was made
abbrev pub AreAnswered : ℕ → List talk.LineRow → Type 0
AreAnswered charge rows =
    MatchOption (users_in rows) (asked_in rows ≡ []) (λ users. AreOfOneStore (record { users = users; charge = charge }) rows)

-- all of these lines were answered, and all of their text was written
pub record Replayed (charge : ℕ) (blank written : Option (List ℕ)) (lines : List (List ℕ)) : Type 0 where
  pub rows : List talk.LineRow
  pub talks : Talks (fresh Service) lines rows
  pub going : (after_all (fresh Service) rows).refused ≡ false
  pub text : Appends blank written (text_from 1 rows)
  pub answered : AreAnswered charge rows

-- the first of these lines were answered, and a beginning of their text was written;
-- it ends with 14 only where a line of users was refused and all of the text was written, and with 14 or 72 there
pub record ReplayedInPart (charge : ℕ) (blank written : Option (List ℕ)) (lines : List (List ℕ)) (why : Refusal) : Type 0 where
  pub rows : List talk.LineRow
  pub done : List (List ℕ)
  pub first : IsPrefix done lines
  pub talks : Talks (fresh Service) done rows
  pub count : ℕ
  pub text : Appends blank written (take count (text_from 1 rows))
  pub users : why ≡ BadUsers → HasRefused Service rows count
  pub told : HasRefused Service rows count → (why ≡ BadUsers) ⊎ (why ≡ OutputFault)
  pub answered : AreAnswered charge rows

-- ---- on the way there

-- what a row is to the one pass of a store
abbrev pub LinksOnly : Setup → Only → talk.LineRow → Only → Type 0
LinksOnly setup = Link (IsOnlyAnswer setup) DoesNothing

-- all that a reader gave was answered by a new store, through its one pass
pub record Served (setup : Setup) (start end blank written : Option (List ℕ)) : Type 0 where
  pub input : List ℕ
  pub read : Consumes start end input
  pub ended : IsAtEnd end
  pub first : Only
  pub last : Only
  pub new : first ≡ unasked
  pub done : Finished Service (LinksOnly setup) first last blank written (lines_of input)

-- the first lines of what it gave were
pub record ServedInPart (setup : Setup) (start end blank written : Option (List ℕ)) (why : Refusal) : Type 0 where
  pub input : List ℕ
  pub read : Consumes start end input
  pub first : Only
  pub last : Only
  pub new : first ≡ unasked
  pub done : EndedEarly Service (LinksOnly setup) first last blank written input (IsAtEnd end) why
