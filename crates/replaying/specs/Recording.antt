-- A session whose events are kept.
use Rattle.std.specs.Prelude.{◌≡◌, ℕ, Bool, true, false, if◌then◌else◌, List, [], ◌∷◌, ◌++◌, length, map, Option, Some, None}
use Rattle.std.specs.Global.{Vec}
use Rattle.model.specs.declared.mode.Mode.TheVariants.{Service}
use Rattle.model.specs.Lines.{lines_of}
use Rattle.model.specs.Worlds.{Setup}
use Rattle.model.specs.Events.{Event}
use Rattle.model.specs.Replies.{Reply}
use Rattle.model.specs.Talk.{LineRow, Names, Seen, fresh, seen_after, after_all, GetsNext, Talks, users_in}
use Rattle.events.specs.declared.event.Event.{Event as AskedEvent}
use Rattle.events.specs.Terms.{event_of}
use Rattle.session.specs.Serving.{Chain}
use Rattle.session.specs.Heads.{Idle}
use Rattle.replaying.specs.OnlyPass.{Only, unasked, IsOnlyAnswer}
use Rattle.replaying.specs.Replaying.{LinksOnly}
use Rattle.replaying.specs.Striking.{events_in, is_of, numbers_of, Answered}
use Rattle.replaying.specs.BadLines.{is_bad_line, bad_numbers, AreBad}
use Rattle.replaying.specs.declared.bad_lines.BadLines.{BadLines}
use Rattle.replaying.specs.declared.first_lines.First.{First}
use Rattle.replaying.specs.declared.numbers.Line.{Line}
use Rattle.replaying.specs.declared.numbers.Numbers.{Numbers}
use Rattle.replaying.specs.declared.numbers.Named.{Named}
use Rattle.replaying.specs.declared.numbers.Notes.{Notes}
use Rattle.replaying.specs.declared.numbers.FirstRun.{FirstRun}

-- ---- the lines up to the one that names the users

-- a row names these users, or none, and then still nobody is named
abbrev pub NamesIn : LineRow → Seen → Option (Vec (List ℕ)) → Type 0
NamesIn row next None = (users_in (row ∷ []) ≡ None) × (next.begun ≡ false)
NamesIn row next (Some users) = row ≡ Names users.items

-- one line was answered before which nobody was named
pub record IsFirst (line : List ℕ) (seen seen' : Seen) (first : First) : Type 0 where
  pub row : LineRow
  pub gets : GetsNext seen line row
  pub seen_is : seen' ≡ seen_after seen row
  pub going : seen'.refused ≡ false
  pub named : NamesIn row seen' first.users
  pub bad_is : first.is_bad ≡ is_bad_line row

-- the line is one of users that is refused
abbrev pub RefusesFirst : (line : List ℕ) → Seen → Type 0
RefusesFirst line seen = (row : LineRow) × GetsNext seen line row × ((seen_after seen row).refused ≡ true)

-- the first of all lines were answered, and asked nobody; they name these users, or none, and the rest is left
pub record Begins (all rest : List (List ℕ)) (users : Option (List (List ℕ))) (seen : Seen) (bad : Option BadLines) : Type 0 where
  pub rows : List LineRow
  pub done : List (List ℕ)
  pub cut : all ≡ done ++ rest
  pub talks : Talks (fresh Service) done rows
  pub going : (after_all (fresh Service) rows).refused ≡ false
  pub named : users_in rows ≡ users
  pub quiet : Chain Idle tt rows tt
  pub seen_is : seen ≡ after_all (fresh Service) rows
  pub bad_are : AreBad bad (bad_numbers 1 rows)

-- so they were up to the line that names the users, and these bytes are left
pub record NamesUsers (all : List (List ℕ)) (left : Option (List ℕ)) (named : Named) : Type 0 where
  pub rest : List ℕ
  pub left_is : left ≡ Some rest
  pub begins : Begins all (lines_of rest) (Some named.users.items) named.session named.bad

-- ---- one line behind it

-- unless an event is lost, it is answered as by the one pass of a store, and is kept behind those before it; what is lost stays so
abbrev pub Keeps : Setup → (old : Only) (events : List Event) (lost : Bool) → Event → Reply → (new : Only) (events' : List Event) (lost' : Bool) → Type 0
Keeps setup old events lost event reply new events' lost' =
    lost' ≡ false → (lost ≡ false) × IsOnlyAnswer setup old event reply new × (events' ≡ events ++ event ∷ [])

-- one line was answered by the only pass of a store, and its event is kept
pub record Asked (setup : Setup) (user line : List ℕ) (seen seen' : Seen) (old : Only) (events : List Event) (new : Only) (events' : List Event)
    (came : Line) : Type 0 where
  pub row : LineRow
  pub gets : GetsNext seen line row
  pub seen_is : seen' ≡ seen_after seen row
  pub going : seen'.refused ≡ false
  pub link : LinksOnly setup old row new
  pub events_are : events' ≡ events ++ events_in (row ∷ [])
  pub his_is : came.is_his ≡ is_of user row
  pub bad_is : came.is_bad ≡ is_bad_line row

-- the number of a line is added to others: where its event is the user's, and where it was refused with 25
pub record AddsNumbers (came : Line) (number : ℕ) (numbers numbers' : Numbers) : Type 0 where
  pub his : numbers'.his.items ≡ numbers.his.items ++ (if came.is_his then number ∷ [] else [])
  pub bad : (others : List ℕ) → AreBad numbers.bad others → AreBad numbers'.bad (others ++ (if came.is_bad then number ∷ [] else []))

-- one line was answered so for the user of some notes, and its number is added
pub record AsksOn (setup : Setup) (line : List ℕ) (notes : Notes) (old : Only) (events : List Event) (notes' : Notes) (new : Only)
    (events' : List Event) : Type 0 where
  pub came : Line
  pub asked : Asked setup notes.user line notes.session notes'.session old events new events' came
  pub numbers_are : AddsNumbers came (length notes'.session.told) notes.numbers notes'.numbers
  pub user_is : notes'.user ≡ notes.user

-- ---- all lines

-- these are the numbers of the user's lines of these rows, and of those that were refused with 25
pub record AreNumbers (user : List ℕ) (rows : List LineRow) (numbers : Numbers) : Type 0 where
  pub his : numbers.his.items ≡ numbers_of user 1 rows
  pub bad : AreBad numbers.bad (bad_numbers 1 rows)

-- the first of all lines were answered for a user by a store that was asked nothing before, which is one for the users whom they name, and the
-- rest is left
pub record RunSoFar (setup : Setup) (user : List ℕ) (all rest : List (List ℕ)) (notes : Notes) (only : Only) (events : List Event) : Type 0 where
  pub rows : List LineRow
  pub done : List (List ℕ)
  pub cut : all ≡ done ++ rest
  pub talks : Talks (fresh Service) done rows
  pub going : (after_all (fresh Service) rows).refused ≡ false
  pub named : users_in rows ≡ Some setup.users
  pub links : Chain (LinksOnly setup) unasked rows only
  pub events_are : events ≡ events_in rows
  pub numbers_are : AreNumbers user rows notes.numbers
  pub seen_is : notes.session ≡ after_all (fresh Service) rows
  pub user_is : notes.user ≡ user

-- from any start on: where these bytes are left to be read, all lines are answered so
abbrev pub RunsOut : Setup
    → (left : Option (List ℕ)) (notes : Notes) (old : Only) (events : List Event) (notes' : Notes) (new : Only) (events' : List Event) → Type 0
RunsOut setup left notes old events notes' new events' = (user : List ℕ) (all : List (List ℕ)) (rest : List ℕ) → left ≡ Some rest
    → RunSoFar setup user all (lines_of rest) notes old events → RunSoFar setup user all [] notes' new events'

-- the same of a new store
abbrev pub IsAsked : Setup → (left : Option (List ℕ)) (notes notes' : Notes) → List AskedEvent → Type 0
IsAsked setup left notes notes' events = (user : List ℕ) (all : List (List ℕ)) (rest : List ℕ) → left ≡ Some rest
    → RunSoFar setup user all (lines_of rest) notes unasked [] → (new : Only) × RunSoFar setup user all [] notes' new (map event_of events)

-- what a first run of these lines gives
pub record IsFirstRun (charge : ℕ) (user : List ℕ) (lines : List (List ℕ)) (run : FirstRun) : Type 0 where
  pub rows : List LineRow
  pub first : Answered charge user lines run.users.items rows
  pub user_is : run.user ≡ user
  pub events_are : map event_of run.events.items ≡ events_in rows
  pub numbers_are : AreNumbers user rows run.numbers
