use Rattle.std.proofs.Common.{◌≡◌, ℕ, List, drop}
use Rattle.std.specs.Process.{SameDir, SameProgramAndArgs, clears_env, command_var}
use Rattle.builder.specs.Commands.{variable_after}
use Rattle.builder.proofs.command.set_variables.Given as goal

-- what is left makes of the variables so far what all of them make
abbrev pub invariant-loop-variable : goal.invariant-loop-variable
invariant-loop-variable l = record {
  sets : (name : List ℕ)
      → variable_after name (command_var l.command name) (drop l.variable-index l.environment) ≡ variable_after name (command_var l.initial.command name) l.environment;
  call : SameProgramAndArgs l.initial.command l.command;
  clears : clears_env l.command ≡ clears_env l.initial.command;
  folder : SameDir l.initial.command l.command;
}
