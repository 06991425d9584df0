-- What a process is started with.
use Rattle.std.specs.Prelude.{◌≡◌, ℕ, Bool, true, false, List, [], ◌∷◌, ◌++◌, codes, decimal, bytes_eq, Option, Some, None, if◌then◌else◌}
use Rattle.std.specs.Global.{Global}
use Rattle.std.specs.Fs.{asks_write, asks_create_new}
use Rattle.std.specs.Path.{path_join}
use Rattle.std.specs.Process.{SameDir, SameEnv, command_program, command_args, command_arg0, command_dir, command_var, clears_env, makes_pipe}
use Rattle.std.specs.declared.fs.options.OpenOptions.{OpenOptions}
use Rattle.std.specs.declared.process.command.Command.{Command}
use Rattle.model.specs.Derivations.{Derivation}
use Rattle.model.specs.Worlds.{Job}
use Rattle.builder.specs.declared.command.Streams.{Streams}

-- what a variable is set to by the pairs of an environment, one after another, where it was set to `before`
abbrev pub variable_after : List ℕ → Option (Option (List ℕ)) → List (List ℕ × List ℕ) → Option (Option (List ℕ))
variable_after name before [] = before
variable_after name before (p ∷ ps) = variable_after name (if bytes_eq p.0 name then Some (Some p.1) else before) ps

-- one variable is set, and no other is changed
abbrev pub SetsVariable : Command Global → List ℕ → List ℕ → Command Global → Type 0
SetsVariable old key value new = (name : List ℕ) → command_var new name ≡ (if bytes_eq key name then Some (Some value) else command_var old name)

-- the variables of an environment are set one after another
abbrev pub Sets : Command Global → List (List ℕ × List ℕ) → Command Global → Type 0
Sets old environment new = (name : List ℕ) → command_var new name ≡ variable_after name (command_var old name) environment

-- a command gets these arguments behind its own, and keeps all else
pub record AddsArguments (old : Command Global) (words : List (List ℕ)) (new : Command Global) : Type 0 where
  pub arguments : command_args new ≡ command_args old ++ words
  pub program : command_program new ≡ command_program old
  pub environment : SameEnv old new
  pub folder : SameDir old new

-- the environment of a process: that of the derivation, and behind it the path under which it is built and the name of
-- its file of inputs
abbrev pub environment_of : Derivation → List ℕ → List ℕ → List (List ℕ × List ℕ)
environment_of d scratch inputs = d.environment ++ (codes "out", scratch) ∷ (codes "INPUTS", inputs) ∷ []

-- the path of the builder of a derivation: it is in the folder of builders, unless it begins with `/`
abbrev pub builder_path : List ℕ → Derivation → List ℕ
builder_path builders d = path_join builders d.builder

-- the builder of this path is started, and is told the path as its own name; the arguments are those of the derivation, the
-- variables those of the environment and no others; and the process runs in the current folder
pub record IsCommandFor (d : Derivation) (scratch builder inputs : List ℕ) (command : Command Global) : Type 0 where
  pub program : command_program command ≡ builder
  pub arguments : command_args command ≡ d.arguments
  pub clears : clears_env command ≡ true
  pub variables : (name : List ℕ) → command_var command name ≡ variable_after name None (environment_of d scratch inputs)
  pub own_name : command_arg0 command ≡ Some builder
  pub folder : command_dir command ≡ None

-- of the streams of a builder the output is a pipe, the input is none, and the errors are one where there is a log
pub record AreStreams (has_log : Bool) (streams : Streams) : Type 0 where
  pub stdin : makes_pipe streams.stdin ≡ false
  pub stdout : makes_pipe streams.stdout ≡ true
  pub stderr : makes_pipe streams.stderr ≡ has_log

-- a file is opened to be written, and is made anew: where something has its name, a link among others, opening it fails
pub record IsMadeAnew (how : OpenOptions) : Type 0 where
  pub write : asks_write how ≡ true
  pub anew : asks_create_new how ≡ true

-- the name of a file of a job, in this folder: its leader and number between two texts
abbrev pub job_path : List ℕ → List ℕ → Job → List ℕ → List ℕ
job_path folder before job behind = path_join folder ((((before ++ job.leader) ++ codes "-") ++ decimal job.number) ++ behind)

-- the name of the file of a job's inputs
abbrev pub inputs_path : List ℕ → Job → List ℕ
inputs_path work job = job_path work (codes "inputs-") job []

-- the name of a job's log
abbrev pub log_path : List ℕ → Job → List ℕ
log_path logs job = job_path logs [] job (codes ".log")
