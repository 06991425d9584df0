-- What is said of the steps that build the command, and of those that read its matches.
use Rattle.std.specs.Prelude.{◌≡◌, ⊤, List, [], ◌∷◌, Option, Some, None, false}
use Rattle.clap.specs.Walk.{Rule, rule_of}
use Rattle.clap.specs.Simple.{App, app_of}
use Rattle.clap.specs.declared.builder.arg.Arg.{Arg}
use Rattle.clap.specs.declared.builder.command.Command.{Command}
use Rattle.clap.specs.declared.builder.command.Command.TheViews.{out-Command}

-- the argument has these rules, and is one of its command alone
abbrev pub IsArgument : Rule → Arg → Type 0
IsArgument rule a = (rule_of a ≡ rule) × (a.global ≡ false)

-- the command is the one that is described, and has no argument that its subcommands have as well
abbrev pub IsCommand : App → Command → Type 0
IsCommand described c = (app_of c ≡ described) × ((out-Command c).has_globals ≡ false)

-- the arguments have these rules, one by one
abbrev pub AreArguments : List Rule → List Arg → Type 0
AreArguments [] [] = ⊤
AreArguments (r ∷ rs) (a ∷ more) = IsArgument r a × AreArguments rs more
AreArguments _ _ = ⊥

-- the commands are those that are described, one by one
abbrev pub AreCommands : List App → List Command → Type 0
AreCommands [] [] = ⊤
AreCommands (d ∷ ds) (c ∷ cs) = IsCommand d c × AreCommands ds cs
AreCommands _ _ = ⊥

-- the value has the property, and there is none only where no value has it
abbrev pub IsFound : {X : Type 0} → (X → Type 0) → Option X → Type 0
IsFound {X} has None = (x : X) → ¬ has x
IsFound {X} has (Some x) = has x
