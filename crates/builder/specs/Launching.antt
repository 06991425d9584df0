-- How a builder is started through a launcher, which has none of its variables.
-- GNU Coreutils manual, "env: Run a command in a modified environment" and "timeout: Run a command with a time limit".
use Rattle.std.specs.Prelude.{◌≡◌, ℕ, ◌==◌, Bool, true, false, List, [], ◌∷◌, ◌++◌, map, codes, decimal, Option, Some, None}
use Rattle.std.specs.Global.{Global}
use Rattle.std.specs.List.{list_any}
use Rattle.std.specs.Process.{command_program, command_args, command_arg0, command_dir, command_var, clears_env}
use Rattle.std.specs.declared.process.command.Command.{Command}
use Rattle.model.specs.Derivations.{Derivation}
use Rattle.builder.specs.Commands.{IsCommandFor, environment_of}

-- a variable, as an argument of `env`
abbrev pub assignment : List ℕ × List ℕ → List ℕ
assignment variable = variable.0 ++ codes "=" ++ variable.1

-- the words by which `env` starts a call (a program and its arguments) with these variables and no others
abbrev pub env_words : List (List ℕ × List ℕ) → List (List ℕ) → List (List ℕ)
env_words variables call = codes "/usr/bin/env" ∷ codes "-i" ∷ codes "--" ∷ map assignment variables ++ call

-- `env` takes an argument with a `=` for a variable
abbrev pub is_assignment : List ℕ → Bool
is_assignment word = list_any (λ b. b == 61) word

-- the words by which `timeout` kills what it starts, with its process group, after so many seconds
abbrev pub limit_words : Option ℕ → List (List ℕ)
limit_words None = []
limit_words (Some seconds) = codes "/usr/bin/timeout" ∷ codes "--signal=KILL" ∷ decimal seconds ∷ []

-- a program is started with its words, and behind them those by which `env` starts the builder with the variables of its
-- environment; it is told its own name, has no variable itself, and runs in the current folder
pub record IsStartedThrough (launcher : List ℕ) (words : List (List ℕ)) (d : Derivation) (scratch builder inputs : List ℕ) (command : Command Global) : Type 0 where
  pub program : command_program command ≡ launcher
  pub arguments : command_args command ≡ words ++ env_words (environment_of d scratch inputs) (builder ∷ d.arguments)
  pub clears : clears_env command ≡ true
  pub variables : (name : List ℕ) → command_var command name ≡ None
  pub own_name : command_arg0 command ≡ Some launcher
  pub folder : command_dir command ≡ None

-- the builder of this path is started through a launcher, or by itself where the launcher has no words
abbrev pub IsLaunchedBy : List (List ℕ) → Derivation → List ℕ → List ℕ → List ℕ → Command Global → Type 0
IsLaunchedBy [] d scratch builder inputs command = IsCommandFor d scratch builder inputs command
IsLaunchedBy (program ∷ words) d scratch builder inputs command = IsStartedThrough program words d scratch builder inputs command

-- there is a launcher, and `env` would take the path of the builder for a variable
abbrev pub is_mistaken : List (List ℕ) → List ℕ → Bool
is_mistaken [] builder = false
is_mistaken (program ∷ words) builder = is_assignment builder
