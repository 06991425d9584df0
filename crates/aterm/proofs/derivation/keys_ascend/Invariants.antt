use Rattle.std.proofs.Common.{◌≡◌, [], drop}
use Rattle.model.specs.Derivations.{ascend, variable_keys}
use Rattle.aterm.proofs.derivation.keys_ascend.Given as goal

abbrev pub invariant-loop-key : goal.invariant-loop-key
invariant-loop-key l = ascend l.last (variable_keys (drop l.key-index l.environment)) ≡ ascend [] (variable_keys l.environment)
