-- What a runner does for a job, step by step, whatever fails: each process that was started is waited for, and each file of
-- inputs that was made is removed.
use Rattle.std.specs.Prelude.{◌≡◌, ◌⊎◌, ℕ, Bool, if◌then◌else◌, List, Option, Some, None, is_some, option_map, Result, Ok, Err}
use Rattle.std.specs.Global.{Global}
use Rattle.std.specs.Path.{path_buf_bytes}
use Rattle.std.specs.declared.fs.options.OpenOptions.{OpenOptions}
use Rattle.std.specs.declared.io.Error.{Error}
use Rattle.std.specs.declared.process.command.Command.{Command}
use Rattle.std.specs.declared.process.status.ExitStatus.{ExitStatus}
use Rattle.model.specs.Worlds.{Entry}
use Rattle.model.specs.Inputs.{inputs_of, inputs_text}
use Rattle.builder.specs.declared.command.Streams.{Streams}
use Rattle.builder.specs.declared.fault.Fault.{Fault}
use Rattle.builder.specs.declared.fault.Fault.TheVariants.{InputsNotWritten, LogNotMade, NotStarted}
use Rattle.builder.specs.declared.log.Log.{Log}
use Rattle.builder.specs.declared.preparing.Prepared.{Prepared}
use Rattle.builder.specs.Commands.{AreStreams, IsMadeAnew}
use Rattle.builder.specs.Logs.{IsNewLog}
use Rattle.builder.specs.Meaning.{IsGone, Means}
use Rattle.builder.specs.Steps.{Steps}
use Rattle.builder.specs.Pieces.{IsRead, IsWritten}

-- the name of the log of what is started, if it is to have one
abbrev pub log_name : Prepared → Option (List ℕ)
log_name p = option_map path_buf_bytes p.log

module _ {O File Output Process : Type 0} (steps : Steps O File Output Process) where
  -- what has this name is removed, and a file is made anew
  pub record MakesAnew (o : O) (path : List ℕ) (answer : Result File Error) (o' : O) : Type 0 where
    pub before : Result (Unit {0}) Error
    pub cleared : O
    pub how : OpenOptions
    pub clears : steps.removed o path before cleared
    pub anew : IsMadeAnew how
    pub opens : steps.opened cleared how path answer o'

  -- where the output could not be read, the process is killed
  abbrev pub KillsUnread : Result (List ℕ) Fault → O → Process → Process → O → Type 0
  KillsUnread (Ok output) o process process' o' = (process' ≡ process) × (o' ≡ o)
  KillsUnread (Err unread) o process process' o' = steps.killed o process process' o'

  -- the output of a process is read, and then the process is waited for
  pub record Ends (o : O) (process : Process) (output : Output) (given : Result (List ℕ) Fault) (o' : O) : Type 0 where
    pub read : Result (List ℕ) Fault
    pub output' : Output
    pub behind : O
    pub process' : Process
    pub between : O
    pub ended : Result ExitStatus Error
    pub is_read : IsRead steps o output read output' behind
    pub kills : KillsUnread read behind process process' between
    pub waits : steps.waited between process' output' ended o'
    pub means : Means read ended given

  -- a process that could not be started is a fault, whatever the reason
  abbrev pub RunsStarted : Result (Process × Output) Error → O → Result (List ℕ) Fault → O → Type 0
  RunsStarted (Ok started) o given o' = Ends o started.0 started.1 given o'
  RunsStarted (Err unstarted) o given o' = (o' ≡ o) × (given ≡ Err NotStarted)

  -- a process is started with the streams of a builder, and with its log, if it has one, and ends
  pub record Runs (o : O) (command : Command Global) (log : Option (Log File)) (given : Result (List ℕ) Fault) (o' : O) : Type 0 where
    pub streams : Streams
    pub answer : Result (Process × Output) Error
    pub between : O
    pub are : AreStreams (is_some log) streams
    pub starts : steps.started o command streams log answer between
    pub runs : RunsStarted answer between given o'

  -- a process runs with a log in this file; or none is started, since the file was not made, or there is no memory for the log
  abbrev pub RunsWithLog : Result File Error → O → Command Global → Result (List ℕ) Fault → O → Type 0
  RunsWithLog (Ok file) o command given o' =
      ((log : Log File) × IsNewLog file log × Runs o command (Some log) given o') ⊎ ((o' ≡ o) × (given ≡ Err LogNotMade))
  RunsWithLog (Err unmade) o command given o' = (o' ≡ o) × (given ≡ Err LogNotMade)

  -- a process runs with a log of this name, if it is to have one: its file is made anew
  abbrev pub RunsLogged : Option (List ℕ) → O → Command Global → Result (List ℕ) Fault → O → Type 0
  RunsLogged None o command given o' = Runs o command None given o'
  RunsLogged (Some path) o command given o' =
      (made : Result File Error) × (between : O) × MakesAnew o path made between × RunsWithLog made between command given o'

  -- a process runs once its inputs are written; else none is started
  abbrev pub RunsWritten : Result (Unit {0}) Fault → O → Prepared → Result (List ℕ) Fault → O → Type 0
  RunsWritten (Ok done) o p given o' = RunsLogged (log_name p) o p.command given o'
  RunsWritten (Err unwritten) o p given o' = (o' ≡ o) × (given ≡ Err unwritten)

  -- the inputs are written to a file, which is closed then, and the process runs; or they were not, and no process is started
  pub record WritesAndRuns (o : O) (file : File) (closure : List Entry) (p : Prepared) (given : Result (List ℕ) Fault) (o' : O) : Type 0 where
    pub written : Result (Unit {0}) Fault
    pub file' : File
    pub behind : O
    pub between : O
    pub is_written : IsWritten steps o file (inputs_text (inputs_of closure)) written file' behind
    pub closes : steps.closed behind file' between
    pub runs : RunsWritten written between p given o'

  -- what a file was made for is done, and the file is removed; a file that stays is a fault
  pub record RunsAndRemoves (o : O) (file : File) (closure : List Entry) (p : Prepared) (given : Result (List ℕ) Fault) (o' : O) : Type 0 where
    pub inner : Result (List ℕ) Fault
    pub between : O
    pub answer : Result (Unit {0}) Error
    pub gone : Bool
    pub runs : WritesAndRuns o file closure p inner between
    pub removes : steps.removed between (path_buf_bytes p.inputs) answer o'
    pub tells : IsGone answer gone
    pub gives : given ≡ (if gone then inner else Err InputsNotWritten)

  -- a file that could not be made is a fault, whatever the reason
  abbrev pub RunsOpened : Result File Error → O → List Entry → Prepared → Result (List ℕ) Fault → O → Type 0
  RunsOpened (Ok file) o closure p given o' = RunsAndRemoves o file closure p given o'
  RunsOpened (Err unmade) o closure p given o' = (o' ≡ o) × (given ≡ Err InputsNotWritten)

  -- the file of inputs is made anew, and what it is made for is done
  pub record RunsInFolder (o : O) (closure : List Entry) (p : Prepared) (given : Result (List ℕ) Fault) (o' : O) : Type 0 where
    pub answer : Result File Error
    pub between : O
    pub makes : MakesAnew o (path_buf_bytes p.inputs) answer between
    pub runs : RunsOpened answer between closure p given o'
