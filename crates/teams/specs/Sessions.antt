-- What the sessions of files do with their lines, in a store that they share.
use Rattle.std.specs.Prelude.{◌≡◌, ◌⊎◌, Bool, true, false, ℕ, List, [], ◌∷◌, ◌++◌, Option, Some, Result, Ok, Err, MatchResult}
use Rattle.std.specs.Io.KnownBytes.{Consumes, IsAtEnd, prepend_known}
use Rattle.model.specs.declared.mode.Mode.TheVariants.{Run}
use Rattle.model.specs.declared.refusal.Refusal.{Refusal}
use Rattle.model.specs.declared.refusal.Refusal.TheVariants.{Memory, Stopped, Quota, BadUsers, InputFault, OutputFault}
use Rattle.model.specs.Worlds.{Job as GoalId}
use Rattle.model.specs.Goals.{Running}
use Rattle.model.specs.Events as model
use Rattle.model.specs.Replies as replies
use Rattle.model.specs.Lines.{lines_of}
use Rattle.events.specs.declared.event.Event.{Event}
use Rattle.events.specs.declared.event.Request.TheVariants.{Status}
use Rattle.events.specs.declared.reply.Reply.{Reply}
use Rattle.events.specs.Terms.{event_of, reply_of}
use Rattle.builder.specs.declared.runner.RunFault.{RunFault}
use Rattle.builder.specs.declared.ticket.Ticket.{Ticket}
use Rattle.builder.specs.declared.ticket.Ticket.TheVariants.{Goal}
use Rattle.builder.specs.Working.{Call, asking}
use Rattle.session.specs.Serving.{Link, Finished, EndedEarly}
use Rattle.teams.specs.declared.sessions.SessionOutput.{SessionOutput}
use Rattle.teams.specs.declared.sessions.ServedSession.{ServedSession}
use Rattle.teams.specs.declared.sessions.Left.{Left}
use Rattle.builder.specs.declared.worker.Worker.{Worker}
use Rattle.builder.specs.declared.rounds.RoundEnd.{RoundEnd}
use Rattle.builder.specs.Rounds.{IsRound}
use Rattle.teams.specs.declared.sessions.SessionSource.{SessionSource}
use Rattle.teams.specs.declared.sessions.SessionEnd.{SessionEnd}
use Rattle.teams.specs.Teams.{stops_in}

-- ---- one store

-- it is 90 or 92
abbrev pub GivesUp : Refusal → Type 0
GivesUp why = (why ≡ Memory) ⊎ (why ≡ Stopped)

-- why no session began
abbrev pub CannotBegin : Refusal → Type 0
CannotBegin why = (why ≡ Memory) ⊎ (why ≡ BadUsers) ⊎ (why ≡ Quota)

-- a text that is kept in memory is not written only for want of it
abbrev pub kept_fault : Refusal → Refusal
kept_fault OutputFault = Memory
kept_fault why = why

-- why a session whose text is kept in memory ends before all lines are answered
abbrev pub EndsBy : Refusal → Type 0
EndsBy why = (why ≡ InputFault) ⊎ (why ≡ BadUsers) ⊎ (why ≡ Memory)

-- a ticket for a goal, which is named as the job that it would lead
abbrev pub ticket_for : GoalId → Ticket
ticket_for goal = Goal goal.leader goal.number

-- it is one of these
abbrev pub IsAmong : {A : Type 0} → List A → A → Type 0
IsAmong {A} items item = (before : List A) × (after : List A) × (items ≡ before ++ item ∷ after)

-- each ticket is for one of these goals
abbrev pub AreTicketsFor : List GoalId → List Ticket → Type 0
AreTicketsFor goals [] = Unit {0}
AreTicketsFor goals (t ∷ ts) = ((goal : GoalId) × IsAmong goals goal × (t ≡ ticket_for goal)) × AreTicketsFor goals ts

-- tickets for some of these goals were put behind those that were there
abbrev pub PutsFor : List GoalId → List Ticket → List Ticket → Type 0
PutsFor goals old new = (tickets : List Ticket) × AreTicketsFor goals tickets × (new ≡ old ++ tickets)

-- that a worker met 90 is told as that, once
abbrev pub HasTold : {T : Type 0} → Bool → Bool → Result T Refusal → Type 0
HasTold old new answer = new ≡ true → (old ≡ true) ⊎ (answer ≡ Err Memory)

-- what a session handed to its workers: the tickets that were put, and whether a wait was told that a worker met 90
pub record Handed : Type 0 where
  pub put : List Ticket
  pub has_told : Bool

-- ---- a session: its store, and what it handed to its workers

pub record Seat (S : Type 0) : Type 0 where
  pub store : S
  pub handed : Handed

module _ {S : Type 0} (called : S → Event → Reply → S → Type 0) where
  -- the store was handed an event and gave a reply, in the terms of the model
  abbrev pub Answers : Seat S → model.Event → replies.Reply → Seat S → Type 0
  Answers old event reply new =
      (asked : Event) × (told : Reply) × (event_of asked ≡ event) × (reply_of told ≡ reply) × called old.store asked told new.store
      × (new.handed ≡ old.handed)

module _ {S : Type 0} (called : S → Event → Reply → S → Type 0) (met : S → S → Type 0) where
  -- calls of a store, one after another; before each of them, and after the last, it met others, or none
  abbrev pub Calls : S → List Call → S → Type 0
  Calls old [] new = met old new
  Calls old (c ∷ cs) new = (ready : S) × (between : S) × met old ready × called ready c.0 c.1 between × Calls between cs new

module _ {S : Type 0} (called : S → Event → Reply → S → Type 0) (met : S → S → Type 0) (stopped : S → Bool) where
  -- in a wait for goals a session meets others, puts tickets for some of those goals, and nothing else: to look how they may go on is no call. It
  -- is told 92 only where its store was told, and 90 where a worker met that
  pub record Waits (old : Seat S) (goals : List GoalId) (reply : replies.Reply) (new : Seat S) : Type 0 where
    pub others : met old.store new.store
    pub puts : PutsFor goals old.handed.put new.handed.put
    pub stop : reply ≡ replies.Refused Stopped → stopped new.store ≡ true
    pub told : new.handed.has_told ≡ true → (old.handed.has_told ≡ true) ⊎ (reply ≡ replies.Refused Memory)

  -- all lines of an input were answered, the events of them by calls of a store, and this is the text of all replies
  pub record Served (first last : Seat S) (start : Option (List ℕ)) (text : List ℕ) : Type 0 where
    pub input : List ℕ
    pub end : Option (List ℕ)
    pub read : Consumes start end input
    pub ended : IsAtEnd end
    pub done : Finished Run (Link (Answers called) Waits) first last (Some []) (Some text) (lines_of input)

  -- the first lines of it were, and this is a beginning of the text
  pub record ServedInPart (first last : Seat S) (start : Option (List ℕ)) (text : List ℕ) (why : Refusal) : Type 0 where
    pub input : List ℕ
    pub end : Option (List ℕ)
    pub read : Consumes start end input
    pub done : EndedEarly Run (Link (Answers called) Waits) first last (Some []) (Some text) input (IsAtEnd end) why
    pub by : EndsBy why

  -- the session of an input has this output, and is as the last one then
  abbrev pub Outputs : Seat S → Seat S → Option (List ℕ) → SessionOutput → Type 0
  Outputs first last start output =
      MatchResult output.ended (λ _. Served first last start output.text.items) (ServedInPart first last start output.text.items)

-- a session of which no line was answered
abbrev pub first_seat : {S : Type 0} → S → Seat S
first_seat store = record { store = store; handed = record { put = []; has_told = false } }

module _ {S I : Type 0} (called : S → Event → Reply → S → Type 0) (met : S → S → Type 0) (stopped : S → Bool) (remaining : I → Option (List ℕ)) where
  -- the lines of a file gave this, and their waits put these tickets
  abbrev pub HasServed : SessionSource S I → List Ticket → SessionEnd S → Type 0
  HasServed source tickets left =
      Outputs called met stopped (first_seat source.store) (record { store = left.store; handed = record { put = tickets; has_told = left.has_told } })
      (prepend_known source.bytes.items (remaining source.reader)) left.output

-- a session leaves what its round has left
pub record IsLeftBy {S Q : Type 0} (end : RoundEnd (SessionEnd S) S Q) (left : Left S Q) : Type 0 where
  pub output : left.output ≡ end.left.output
  pub store : left.store ≡ end.left.store
  pub has_told : left.has_told ≡ end.left.has_told
  pub workers : left.workers ≡ end.workers
  pub told : end.has_met_memory ≡ true → left.has_told ≡ true

module _ {S Q I : Type 0} (called : S → Event → Reply → S → Type 0) (asked : S → List ℕ → ℕ → Result Running Refusal → S → Type 0)
    (gives : Q → Running → Result (List ℕ) RunFault → Q → Type 0) (met : S → S → Type 0) (stopped : S → Bool) (stops : S → ℕ)
    (remaining : I → Option (List ℕ)) where
  -- a session leaves the output of its file, and the workers with whom it began, who took tickets that its waits put; and where no wait was told
  -- 90 for them, no call of theirs stopped what they call
  pub record OutputOf (session : ServedSession S Q I) (left : Left S Q) : Type 0 where
    pub tickets : List Ticket
    pub output : Outputs called met stopped (first_seat session.store)
        (record { store = left.store; handed = record { put = tickets; has_told = left.has_told } })
        (prepend_known session.bytes.items (remaining session.reader)) left.output
    pub is_whole : Bool
    pub has_met_memory : Bool
    pub round : IsRound called asked gives tickets session.workers.items left.workers.items is_whole has_met_memory
    pub clean : left.has_told ≡ false → stops_in stops left.workers.items ≡ 0

  -- each does, in their order
  abbrev pub AllOutputs : List (ServedSession S Q I) → List (Left S Q) → Type 0
  AllOutputs [] [] = Unit {0}
  AllOutputs (session ∷ served_sessions) (left ∷ lefts) = OutputOf session left × AllOutputs served_sessions lefts
  AllOutputs served_sessions lefts = ⊥

-- each of these results is what a session leaves
abbrev pub AllLeave : {S Q : Type 0} → List (Result (Left S Q) Refusal) → List (Left S Q) → Type 0
AllLeave [] [] = Unit {0}
AllLeave (result ∷ results) (left ∷ lefts) = (result ≡ Ok left) × AllLeave results lefts
AllLeave results lefts = ⊥
