-- What reading a line gives, against the parsed line.
use Rattle.std.specs.Prelude.{◌≡◌, ◌⊎◌, ℕ, nat_le, true, ◌&&◌, if◌then◌else◌, List, ◌∷◌, Option, None, Some, Result, MatchResult}
use Rattle.model.specs.declared.refusal.Refusal.{Refusal}
use Rattle.model.specs.declared.refusal.Refusal.TheVariants.{Memory}
use Rattle.model.specs.declared.verb.Verb.{Verb}
use Rattle.model.specs.declared.verb.WordKind.TheVariants as kind
use Rattle.model.specs.Lines.{is_numeral}
use Rattle.model.specs.Words.{AreWell, FirstIll, number_in}
use Rattle.model.specs.Verbs.{kinds_of, IsRequestOf}
use Rattle.model.specs.ParsedLines.{ParsedLine, Command}
use Rattle.model.specs.ParsedLines as parsed
use Rattle.model.specs.Talk.{LineRow, Silent, Names, Refuses, Asks, Waits, Gets}
use Rattle.model.specs.Replies.{ends_wait}
use Rattle.model.specs.Worlds.{Job}
use Rattle.model.specs.Replies as replies
use Rattle.events.specs.declared.event.Event.{Event}
use Rattle.events.specs.declared.event.Request.{Request}
use Rattle.events.specs.Terms.{event_of, request_of}
use Rattle.lines.specs.declared.line.Reading.{Reading}
use Rattle.lines.specs.declared.line.Reading.TheVariants as reading

-- the number of a numeral that writes at most that
abbrev pub numeral_up_to : ℕ → List ℕ → Option ℕ
numeral_up_to most word = if is_numeral word && nat_le (number_in word) most then Some (number_in word) else None

-- the command of a verb with these words
abbrev pub command_of : Verb → List (List ℕ) → Command
command_of verb words = record { verb = verb; words = words }

-- a command makes this request
abbrev pub IsRequestOfCommand : Command → Request → Type 0
IsRequestOfCommand command request = AreWell (kinds_of command.verb) command.words × IsRequestOf command.verb command.words (request_of request)

-- it makes none: a word is ill-formed, or memory was refused
abbrev pub IsNoRequest : Command → Refusal → Type 0
IsNoRequest command why = (why ≡ Memory) ⊎ FirstIll (kinds_of command.verb) command.words why

-- a user's command makes this event
abbrev pub IsEventOfCommand : List ℕ → Command → Event → Type 0
IsEventOfCommand user command event =
    AreWell (kind.User ∷ kinds_of command.verb) (user ∷ command.words) × (event.actor ≡ user) × IsRequestOf command.verb command.words (request_of event.request)

-- it makes none
abbrev pub IsNoEvent : List ℕ → Command → Refusal → Type 0
IsNoEvent user command why = (why ≡ Memory) ⊎ FirstIll (kind.User ∷ kinds_of command.verb) (user ∷ command.words) why

-- the row of what a line comes to, where the lines before it got these goals
abbrev pub IsRowOf : List Job → Reading → LineRow → Type 0
IsRowOf goals reading.Silent row = row ≡ Silent
IsRowOf goals (reading.Names users) row = row ≡ Names users.items
IsRowOf goals (reading.Refuses why) row = row ≡ Refuses why
IsRowOf goals (reading.Asks event) row = (reply : replies.Reply) × (row ≡ Asks (event_of event) reply)
IsRowOf goals reading.Waits row = (reply : replies.Reply) × (ends_wait reply ≡ true) × (row ≡ Waits goals reply)

-- a parsed line comes to this, whatever goals the lines before it got
abbrev pub Becomes : ParsedLine → Reading → Type 0
Becomes parsed reading.Silent = (goals : List Job) → Gets goals parsed Silent
Becomes parsed (reading.Names users) = (goals : List Job) → Gets goals parsed (Names users.items)
Becomes parsed (reading.Refuses why) = (goals : List Job) → Gets goals parsed (Refuses why)
Becomes parsed (reading.Asks event) = (goals : List Job) (reply : replies.Reply) → Gets goals parsed (Asks (event_of event) reply)
Becomes parsed reading.Waits = (goals : List Job) (reply : replies.Reply) → ends_wait reply ≡ true → Gets goals parsed (Waits goals reply)

-- a line of any command that makes this event, or none for this, comes to this
abbrev pub BecomesOfCommand : Result Event Refusal → Reading → Type 0
BecomesOfCommand event reading =
    (user : List ℕ) (command : Command) → MatchResult event (IsEventOfCommand user command) (IsNoEvent user command) → Becomes (parsed.Asks user command) reading
