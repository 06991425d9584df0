-- What is printed for a user's lines where only those events of a file are run that can reach him.
use Rattle.std.specs.Prelude.{◌≡◌, ◌⊎◌, ℕ, ◌+◌, Bool, true, false, if◌then◌else◌, List, [], ◌∷◌, ◌++◌, map, take, Option, Some, None, IfSome, unwrap_or, bytes_eq}
use Rattle.std.specs.List.{list_any}
use Rattle.std.specs.Io.KnownBytes.{Appends}
use Rattle.model.specs.declared.mode.Mode.TheVariants.{Service}
use Rattle.model.specs.declared.refusal.Refusal.{Refusal}
use Rattle.model.specs.declared.refusal.Refusal.TheVariants.{BadUsers, UnknownUser, InputFault, OutputFault, Memory}
use Rattle.model.specs.Paths.{NoClash}
use Rattle.model.specs.Reach.{is_among}
use Rattle.model.specs.Worlds.{Setup, nothing}
use Rattle.model.specs.Events.{Event}
use Rattle.model.specs.Replies.{Reply, is_memory}
use Rattle.model.specs.Steps.{answers, replies_to}
use Rattle.model.specs.Striking.{strike}
use Rattle.model.specs.Timed.{strike_timed}
use Rattle.model.specs.HashedTexts.{hashed}
use Rattle.model.specs.Talk.{LineRow, Asks, fresh, after_all, Talks, answer_text, row_text, asked_in, users_in}
use Rattle.trust.specs.declared.user.User.{User}
use Rattle.events.specs.declared.event.Event.{Event as AskedEvent}
use Rattle.events.specs.declared.reply.Reply.{Reply as GivenReply}
use Rattle.events.specs.Terms.{event_of, answer_of}
use Rattle.schedule.specs.Running.{HadMemory, IsRun}
use Rattle.session.specs.Ahead.{LooksAhead}
use Rattle.session.specs.Serving.{IsUnwritten}
use Rattle.replaying.specs.declared.bad_lines.BadLines.{BadLines}
use Rattle.replaying.specs.BadLines.{numbers_where, bad_numbers, AreBad}
use Rattle.replaying.specs.Replaying.{AreOfOneStore}

-- the events that the lines made, in their order
abbrev pub events_in : List LineRow → List Event
events_in rows = map (λ p. p.0) (asked_in rows)

-- of these events, those that can reach a user: by trust that is ever given, or where it is timed by trust that is held at the times concerned
abbrev pub struck : (timed : Bool) → Setup → (user : List ℕ) → List Event → List Event
struck timed setup user events = if timed then strike_timed setup user events else strike setup user events

-- ---- the lines of a user

-- whether a line made an event of the user
abbrev pub is_of : (user : List ℕ) → LineRow → Bool
is_of user (Asks event reply) = bytes_eq event.actor user
is_of user row = false

-- the numbers of those of the user
abbrev pub numbers_of : (user : List ℕ) → ℕ → List LineRow → List ℕ
numbers_of user n rows = numbers_where (is_of user) n rows

-- what is printed for those lines, where the first line has this number
abbrev pub text_for : (user : List ℕ) → ℕ → List LineRow → List ℕ
text_for user n [] = []
text_for user n (row ∷ rows) = if is_of user row then row_text n row ++ text_for user (n + 1) rows else text_for user (n + 1) rows

-- what is printed for replies to the user, each as the line of its number
abbrev pub lines_under : (user : List ℕ) → (numbers : List ℕ) → List Reply → List ℕ
lines_under user [] replies = []
lines_under user (n ∷ numbers) [] = []
lines_under user (n ∷ numbers) (reply ∷ replies) = answer_text n user reply ++ lines_under user numbers replies

-- ---- what is promised

-- memory was refused to none of the events that the lines made
abbrev pub HadMemoryFor : List LineRow → Type 0
HadMemoryFor rows = list_any (λ p. is_memory p.1) (asked_in rows) ≡ false

-- the lines were answered by one store, as `replay` answers them, for the users whom they name; the user is one of these
pub record Answered (charge : ℕ) (user : List ℕ) (lines : List (List ℕ)) (users : List (List ℕ)) (rows : List LineRow) : Type 0 where
  pub talks : Talks (fresh Service) lines rows
  pub going : (after_all (fresh Service) rows).refused ≡ false
  pub named : users_in rows ≡ Some users
  pub listed : is_among user users ≡ true
  pub answered : AreOfOneStore (record { users = users; charge = charge }) rows

-- no two of the texts that are hashed where all of the events are run have one folded digest; and none of those that are hashed where only the
-- events are run that can reach the user by trust that is timed: a goal may then stay in a job that it leaves where all are run
abbrev pub HaveOneText : Setup → (timed : Bool) → (user : List ℕ) → List LineRow → Type 0
HaveOneText setup timed user rows =
    NoClash (hashed setup nothing (events_in rows)) × (timed ≡ true → NoClash (hashed setup nothing (strike_timed setup user (events_in rows))))

-- a new store ran those of some events that can reach the user, and gave these replies, which are those of private desks
pub record Rerun (setup : Setup) (user : List ℕ) (timed : Bool) (events : List Event) (given : List (User × GivenReply)) : Type 0 where
  pub kept : List AskedEvent
  pub struck_out : map event_of kept ≡ struck timed setup user events
  pub run : IsRun setup kept given
  pub private : NoClash (hashed setup nothing (struck timed setup user events)) → HadMemory given
      → map answer_of given ≡ answers setup nothing (struck timed setup user events)

-- the text that the lines of a user get where only those of their events are run that can reach him: for each line of his the reply that he gets
-- then, under the number of the line; where no two of the texts that are hashed have one folded digest (`HaveOneText`), and memory was refused to none of
-- the events of either run, it is what is printed for his lines where all events are run
pub record IsStruck (charge : ℕ) (user : List ℕ) (timed : Bool) (lines : List (List ℕ)) (text : List ℕ) : Type 0 where
  pub users : List (List ℕ)
  pub rows : List LineRow
  pub first : Answered charge user lines users rows
  pub given : List (User × GivenReply)
  pub second : Rerun (record { users = users; charge = charge }) user timed (events_in rows) given
  pub text_is : text ≡ lines_under user (numbers_of user 1 rows) (replies_to user (map answer_of given))
  pub same : HaveOneText (record { users = users; charge = charge }) timed user rows → HadMemoryFor rows → HadMemory given → text ≡ text_for user 1 rows

-- all of that text was written; and these are the lines that were refused with 25 where all events are run
pub record Struck (charge : ℕ) (user : List ℕ) (timed : Bool) (blank written : Option (List ℕ)) (lines : List (List ℕ)) (bad : Option BadLines) : Type 0 where
  pub text : List ℕ
  pub is : IsStruck charge user timed lines text
  pub all : Appends blank written text
  pub bad_are : AreBad bad (bad_numbers 1 is.rows)

-- a beginning of it was, where writing or memory failed
pub record StruckInPart (charge : ℕ) (user : List ℕ) (timed : Bool) (blank written : Option (List ℕ)) (lines : List (List ℕ)) (why : Refusal) : Type 0 where
  pub text : List ℕ
  pub is : IsStruck charge user timed lines text
  pub count : ℕ
  pub part : Appends blank written (take count text)
  pub fault : IsUnwritten why

-- nothing was written, or a beginning
abbrev pub StruckEarly : ℕ → (user : List ℕ) (timed : Bool) (blank written : Option (List ℕ)) (lines : List (List ℕ)) → Refusal → Type 0
StruckEarly charge user timed blank written lines why = Appends blank written [] ⊎ StruckInPart charge user timed blank written lines why

-- ---- how it may end

-- no line of users names the user, or there is none, and none is refused
pub record IsUnnamed (user input : List ℕ) : Type 0 where
  pub users : Option (List (List ℕ))
  pub found : LooksAhead Service input users
  pub going : (after_all (fresh Service) found.rows).refused ≡ false
  pub unlisted : is_among user (unwrap_or users []) ≡ false

-- a line of users is refused, and none before it names any
pub record RefusesUsers (input : List ℕ) : Type 0 where
  pub found : LooksAhead Service input None
  pub refused : (after_all (fresh Service) found.rows).refused ≡ true

-- why it may end before all is written: no line of users names the user, or one is refused; reading or writing failed, or memory was refused
abbrev pub StrikeEndsBy : (user : List ℕ) (start : Option (List ℕ)) → Refusal → Type 0
StrikeEndsBy user start UnknownUser = IfSome start (IsUnnamed user)
StrikeEndsBy user start BadUsers = IfSome start RefusesUsers
StrikeEndsBy user start InputFault = Unit {0}
StrikeEndsBy user start OutputFault = Unit {0}
StrikeEndsBy user start Memory = Unit {0}
StrikeEndsBy user start why = ⊥
