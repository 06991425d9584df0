use Rattle.std.proofs.Common.{◌≡◌, false, take, map}
use Rattle.std.specs.List.{list_any}
use Rattle.model.specs.Resolutions.{put_variable}
use Rattle.resolving.specs.Resolving.{is_variable_crowded}
use Rattle.resolving.proofs.strings.put_variables.Given as goal

abbrev pub invariant-loop-key : goal.invariant-loop-key
invariant-loop-key l = record {
  apart : list_any (is_variable_crowded l.replacer) (take l.key-index l.environment) ≡ false;
  variables : l.new.items ≡ map (put_variable l.replacer) (take l.key-index l.environment);
}
