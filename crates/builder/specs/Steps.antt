-- What files and processes do, step by step.
use Rattle.std.specs.Prelude.{ℕ, List, Option, Result}
use Rattle.std.specs.Global.{Global}
use Rattle.std.specs.declared.fs.options.OpenOptions.{OpenOptions}
use Rattle.std.specs.declared.io.Error.{Error}
use Rattle.std.specs.declared.process.command.Command.{Command}
use Rattle.std.specs.declared.process.status.ExitStatus.{ExitStatus}
use Rattle.builder.specs.declared.command.Streams.{Streams}
use Rattle.builder.specs.declared.log.Log.{Log}

-- each relates what is outside before a call, what the call is given, what it answers, and what is outside after
pub record Steps (O File Output Process : Type 0) : Type 1 where
  -- what has that name is removed, of a link the link; or it was not
  pub removed : O → List ℕ → Result (Unit {0}) Error → O → Type 0
  -- a file of that name is opened as the options ask
  pub opened : O → OpenOptions → List ℕ → Result File Error → O → Type 0
  -- these bytes are written to a file, or were not
  pub wrote : O → File → List ℕ → Result (Unit {0}) Error → File → O → Type 0
  -- a file is closed, as it is then
  pub closed : O → File → O → Type 0
  -- a process is started with these streams; its standard output is read from the output, and its standard error goes into
  -- the log, if there is one
  pub started : O → Command Global → Streams → Option (Log File) → Result (Process × Output) Error → O → Type 0
  -- what comes next of an output is read, none at its end
  pub read : O → Output → Result (List ℕ) Error → Output → O → Type 0
  -- a process is killed, and is another one after
  pub killed : O → Process → Process → O → Type 0
  -- an output is closed, and its process is waited for, and ended so
  pub waited : O → Process → Output → Result ExitStatus Error → O → Type 0

-- of the machine nothing is said
abbrev pub nothing_said : {O File Output Process : Type 0} → Steps O File Output Process
nothing_said = record {
  removed = λ _ _ _ _. Unit {0};
  opened = λ _ _ _ _ _. Unit {0};
  wrote = λ _ _ _ _ _ _. Unit {0};
  closed = λ _ _ _. Unit {0};
  started = λ _ _ _ _ _ _. Unit {0};
  read = λ _ _ _ _ _. Unit {0};
  killed = λ _ _ _ _. Unit {0};
  waited = λ _ _ _ _ _. Unit {0};
}
