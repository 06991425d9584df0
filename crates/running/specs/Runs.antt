-- What the lines of files mean for the store that their sessions share.
use Rattle.std.specs.Prelude.{◌≡◌, ◌<◌, ◌==◌, ◌&&◌, ◌||◌, Bool, true, false, ℕ, List, [], ◌∷◌, ◌++◌, length, sum, sum_by, Option, Some, Result, take, All, MatchResult}
use Rattle.std.specs.List.{list_any, list_all}
use mathlib.Core.List.{IsPrefix}
use Rattle.std.specs.Io.KnownBytes.{Appends, Consumes, IsAtEnd, prepend_known}
use Rattle.model.specs.declared.mode.Mode.TheVariants.{Run}
use Rattle.model.specs.declared.refusal.Refusal.{Refusal}
use Rattle.model.specs.declared.refusal.Refusal.TheVariants.{BadUsers}
use Rattle.model.specs.Worlds.{Setup}
use Rattle.model.specs.Lines.{lines_of}
use Rattle.model.specs.Goals.{Running}
use Rattle.model.specs.Events.{is_query}
use Rattle.model.specs.Replies.{is_refusal, is_memory_refusal, is_stopped_refusal}
use Rattle.model.specs.Talk as talk
use Rattle.model.specs.Talk.{fresh, after_all, Talks, text_from}
use Rattle.events.specs.declared.event.Event.{Event}
use Rattle.events.specs.declared.reply.Reply.{Reply}
use Rattle.events.specs.Terms.{event_of, reply_of}
use Rattle.history.specs.declared.row.Row.{Row}
use Rattle.history.specs.Callers.{PassKnowledge, rows_of, stops_of}
use Rattle.history.specs.Histories.{IsLegal}
use Rattle.book.specs.declared.closed_history.History.{History}
use Rattle.book.specs.Closing.{rows_in}
use Rattle.builder.specs.declared.runner.RunFault.{RunFault}
use Rattle.builder.specs.declared.ticket.Ticket.{Ticket}
use Rattle.builder.specs.declared.worker.Worker.{Worker}
use Rattle.builder.specs.Working.{Call}
use Rattle.builder.specs.Tickets.{goals_in}
use Rattle.builder.specs.Queue.{Taken, tickets_in, owns, AreOf}
use Rattle.builder.specs.Rounds.{Shift, backwards, tickets_of, WorksShift}
use Rattle.session.specs.Serving.{HasRefused}
use Rattle.teams.specs.declared.sessions.SessionOutput.{SessionOutput}
use Rattle.teams.specs.declared.sessions.Part.{Part}
use Rattle.book.specs.Asking.{IsAskedBy}
use Rattle.running.specs.Calling.{Stand, IsTold}
use Rattle.running.specs.Meeting.{stops_by}
use Rattle.teams.specs.Sessions.{AreTicketsFor, EndsBy}
use Rattle.running.specs.ServedSessions.{passes_needed, session_passes, numbers_in, workers_for, all_workers}
use Rattle.teams.specs.Asked.{are_asked}
use Rattle.running.specs.declared.runs.Results.{Results}

-- these are the calls that lines of these rows make, in their order: the event of a line with the reply that is printed for it
abbrev pub Makes : List talk.LineRow → List Call → Type 0
Makes [] calls = calls ≡ []
Makes (talk.Asks event reply ∷ rows) calls =
    (asked : Event) × (told : Reply) × (rest : List Call)
    × (calls ≡ (asked, told) ∷ rest) × (event_of asked ≡ event) × (reply_of told ≡ reply) × Makes rows rest
Makes (row ∷ rows) calls = Makes rows calls

-- these are the tickets that the waits of lines put, in their order, each for a goal of its wait
abbrev pub Puts : List talk.LineRow → List Ticket → Type 0
Puts [] tickets = tickets ≡ []
Puts (talk.Waits goals reply ∷ rows) tickets =
    (own : List Ticket) × (rest : List Ticket) × (tickets ≡ own ++ rest) × AreTicketsFor goals own × Puts rows rest
Puts (row ∷ rows) tickets = Puts rows tickets

-- whether a line was told one of some refusals
abbrev pub is_told : (Refusal → Bool) → talk.LineRow → Bool
is_told which (talk.Asks event reply) = is_refusal which reply
is_told which (talk.Waits goals reply) = is_refusal which reply
is_told which row = false

-- whether one of them was
abbrev pub tell : (Refusal → Bool) → List talk.LineRow → Bool
tell which [] = false
tell which (row ∷ rows) = is_told which row || tell which rows

-- whether a line that asks for what is only read was told 92
abbrev pub is_read_told_stopped : talk.LineRow → Bool
is_read_told_stopped (talk.Asks event reply) = is_query event.request && is_refusal is_stopped_refusal reply
is_read_told_stopped row = false

-- the calls of these lines stand in the history of a store under the pass of a number. A line that asks for what is only read is never told 92;
-- where another was, the store was stopped; and where calls of these lines or of those who built for them stopped it, so many as are said, a
-- line was told 90. Their waits put these tickets
pub record LinesStand (setup : Setup) (history : History) (number stops : ℕ) (tickets : List Ticket) (rows : List talk.LineRow) : Type 0 where
  pub calls : List Call
  pub makes : Makes rows calls
  pub puts : Puts rows tickets
  pub stand : Stand setup (rows_in history) number calls
  pub reads : list_any is_read_told_stopped rows ≡ false
  pub stopped : tell is_stopped_refusal rows ≡ true → history.stopped ≡ true
  pub memory : 0 < stops → tell is_memory_refusal rows ≡ true

-- all lines of an input were answered so, and this is all of their text
pub record Ran (setup : Setup) (history : History) (number stops : ℕ) (tickets : List Ticket) (start : Option (List ℕ)) (printed : List ℕ) : Type 0 where
  pub input : List ℕ
  pub end : Option (List ℕ)
  pub read : Consumes start end input
  pub ended : IsAtEnd end
  pub rows : List talk.LineRow
  pub talks : Talks (fresh Run) (lines_of input) rows
  pub going : (after_all (fresh Run) rows).refused ≡ false
  pub text : Appends (Some []) (Some printed) (text_from 1 rows)
  pub stand : LinesStand setup history number stops tickets rows

-- the first lines of it were, whatever comes after what was read, and this is a beginning of their text;
-- it ends with 14 just where a line of users was refused and this is all of it, and else with 71 or 90
pub record RanInPart (setup : Setup) (history : History) (number stops : ℕ) (tickets : List Ticket) (start : Option (List ℕ)) (printed : List ℕ)
    (why : Refusal) : Type 0 where
  pub input : List ℕ
  pub end : Option (List ℕ)
  pub read : Consumes start end input
  pub rows : List talk.LineRow
  pub done : List (List ℕ)
  pub cut : (more : List ℕ) → (IsAtEnd end → more ≡ []) → IsPrefix done (lines_of (input ++ more))
  pub talks : Talks (fresh Run) done rows
  pub count : ℕ
  pub text : Appends (Some []) (Some printed) (take count (text_from 1 rows))
  pub users : why ≡ BadUsers → HasRefused Run rows count
  pub told : HasRefused Run rows count → why ≡ BadUsers
  pub by : EndsBy why
  pub stand : LinesStand setup history number stops tickets rows

module _ {I Q : Type 0} (setup : Setup) (remaining : I → Option (List ℕ)) (history : History) where
  -- the output of a file: what was read of it, and then what its reader gave, was run, or the first lines of it were
  abbrev pub IsOutputOf : ℕ → ℕ → List Ticket → Part I Q → SessionOutput → Type 0
  IsOutputOf number stops tickets part output =
      let start = prepend_known part.bytes.items (remaining part.reader) in
      MatchResult output.ended (λ _. Ran setup history number stops tickets start output.text.items)
      (RanInPart setup history number stops tickets start output.text.items)

  -- each file has its output, in their order, under the passes of these numbers; so many calls of each stopped the store, and the waits of each
  -- put these tickets
  abbrev pub AreOutputs : List ℕ → List ℕ → List (List Ticket) → List (Part I Q) → List SessionOutput → Type 0
  AreOutputs [] [] [] [] [] = Unit {0}
  AreOutputs (number ∷ numbers) (own ∷ stops) (put ∷ tickets) (part ∷ parts) (output ∷ outputs) =
      IsOutputOf number own put part output × AreOutputs numbers stops tickets parts outputs
  AreOutputs numbers stops tickets parts outputs = ⊥

-- ---- workers

-- what a front says in its history, when it is closed, of a pass that was given back
pub record IsGivenBack (history : History) (pass : PassKnowledge) : Type 0 where
  pub sure : IsPrefix pass.caller.sure (rows_in history)
  pub seen : IsPrefix pass.seen (rows_in history)
  pub each : rows_of pass.caller.number (rows_in history) ≡ pass.caller.calls
  pub stopped : pass.caller.stopped ≡ true → history.stopped ≡ true

module _ {Q : Type 0} (setup : Setup) (gives : Q → Running → Result (List ℕ) RunFault → Q → Type 0) (history : History) where
  -- a worker, who has made no call at first, did nothing but work on the tickets that he took, and his calls stand in the history: he plans a
  -- goal, starts it, asks what the job that it leads is built from, has that built once by his runner, and ends the job with what this gave. What
  -- he is told, of a job too, is so after rows that the history begins with
  pub record WorkerStands (first : Worker PassKnowledge Q) (shift : Shift) : Type 0 where
    pub last : Worker PassKnowledge Q
    pub works : WorksShift (IsTold setup) (IsAskedBy setup) gives first shift last
    pub stand : Stand setup (rows_in history) first.store.caller.number shift.calls
    pub back : IsGivenBack history last.store

  -- each of them
  abbrev pub WorkersStand : List (Worker PassKnowledge Q) → List Shift → Type 0
  WorkersStand [] [] = Unit {0}
  WorkersStand (first ∷ firsts) (shift ∷ shifts) = WorkerStands first shift × WorkersStand firsts shifts
  WorkersStand firsts shifts = ⊥

  -- the workers of a file took tickets that its waits put: what they took, each what is its own in one log of all, is a beginning of these,
  -- in their order, each as often
  pub record TeamStands (tickets : List Ticket) (firsts : List (Worker PassKnowledge Q)) : Type 0 where
    pub shifts : List Shift
    pub workers : WorkersStand firsts shifts
    pub log : List Taken
    pub own_of_each : backwards (tickets_of shifts) ≡ owns 0 (length (backwards (tickets_of shifts))) log
    pub of_hands : AreOf (length (backwards (tickets_of shifts))) log
    pub begins : IsPrefix (goals_in (tickets_in log)) tickets

  -- those of each file, whose session has the pass of a number
  abbrev pub TeamsStand : {I : Type 0} → List ℕ → List (List Ticket) → List (Part I Q) → Type 0
  TeamsStand [] [] [] = Unit {0}
  TeamsStand (number ∷ numbers) (put ∷ tickets) (part ∷ parts) = TeamStands put (workers_for number part) × TeamsStand numbers tickets parts
  TeamsStand numbers tickets parts = ⊥

-- a row is of the pass of a session or of a worker
abbrev pub is_accounted : List ℕ → List ℕ → Row → Bool
is_accounted sessions workers row = list_any (λ n. n == row.pass) sessions || list_any (λ n. n == row.pass) workers

-- each of them is
abbrev pub are_accounted : List ℕ → List ℕ → List Row → Bool
are_accounted sessions workers rows = list_all (is_accounted sessions workers) rows

-- ---- all files

module _ {I Q : Type 0} (setup : Setup) (gives : Q → Running → Result (List ℕ) RunFault → Q → Type 0) (remaining : I → Option (List ℕ)) where
  -- the sessions of files, of the passes of these numbers, were served: whatever the history is when these passes were given back, each file has
  -- its output in it; and where they are all that the files needed, the passes of workers among them are those of the files' workers, and each of
  -- these stands in it
  pub record AreServed (numbers : List ℕ) (parts : List (Part I Q)) (sessions workers : List ℕ) (passes : List PassKnowledge) (outputs : List SessionOutput) : Type 0 where
    pub named : sessions ≡ numbers
    pub stops : List ℕ
    pub all : sum stops ≡ sum_by stops_by passes
    pub tickets : List (List Ticket)
    pub outputs_are : (history : History) → All (IsGivenBack history) passes → AreOutputs setup remaining history numbers stops tickets parts outputs
    pub workers_are : workers ≡ numbers_in (all_workers numbers parts)
    pub teams_are : (history : History) → All (IsGivenBack history) passes → TeamsStand setup gives history numbers tickets parts

  -- what the lines of files gave is so of the history of one store. It is legal; the lines of each file stand in it under the pass of its
  -- session, and no other row is of that pass; each worker of a file, with a runner of it and a pass, took tickets that waits of the file put, and
  -- stands in it; each row of another pass than
  -- a session's is of such a worker, and goes on with a goal that a line of the worker's file was given before; and it says that the store was
  -- stopped just where a call did that, after which a line of that file was told 90
  pub record AreResults (parts : List (Part I Q)) (results : Results) : Type 0 where
    pub legal : IsLegal setup (rows_in results.history)
    pub stops : List ℕ
    pub tickets : List (List Ticket)
    pub outputs : AreOutputs setup remaining results.history (session_passes (passes_needed parts) parts) stops tickets parts results.outputs.items
    pub stopped : sum stops ≡ stops_of results.history.stopped
    pub workers : TeamsStand setup gives results.history (session_passes (passes_needed parts) parts) tickets parts
    pub others : are_accounted (session_passes (passes_needed parts) parts)
        (numbers_in (all_workers (session_passes (passes_needed parts) parts) parts)) (rows_in results.history) ≡ true
    pub asked : are_asked (session_passes (passes_needed parts) parts) (rows_in results.history) ≡ true

-- a front was closed with so many passes, of which these are the sessions' and those the workers', who went on with goals of their own files
pub record IsClosed (setup : Setup) (count : ℕ) (sessions workers : List ℕ) (passes : List PassKnowledge) (history : History) : Type 0 where
  pub legal : IsLegal setup (rows_in history)
  pub whole : length passes ≡ count
  pub back : All (IsGivenBack history) passes
  pub stopped : sum_by stops_by passes ≡ stops_of history.stopped
  pub others : are_accounted sessions workers (rows_in history) ≡ true
  pub asked : are_asked sessions (rows_in history) ≡ true
