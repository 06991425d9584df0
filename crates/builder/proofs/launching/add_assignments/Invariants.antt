use Rattle.std.proofs.Common.{take}
use Rattle.std.specs.Prelude.{map}
use Rattle.builder.specs.Commands.{AddsArguments}
use Rattle.builder.specs.Launching.{assignment}
use Rattle.builder.proofs.launching.add_assignments.Given as goal

-- the arguments so far are added
abbrev pub invariant-loop-variable : goal.invariant-loop-variable
invariant-loop-variable l = AddsArguments l.initial.command (map assignment (take l.variable-index l.environment)) l.command
