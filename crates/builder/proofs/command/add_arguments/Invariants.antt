use Rattle.std.proofs.Common.{take}
use Rattle.builder.specs.Commands.{AddsArguments}
use Rattle.builder.proofs.command.add_arguments.Given as goal

-- the arguments so far are added
abbrev pub invariant-loop-argument : goal.invariant-loop-argument
invariant-loop-argument l = AddsArguments l.initial.command (take l.argument-index l.arguments) l.command
