use Rattle.std.proofs.Common.{◌≡◌, drop}
use Rattle.model.specs.Derivations.{value_of}
use Rattle.aterm.proofs.derivation.value_of.Given as goal

abbrev pub invariant-loop-key : goal.invariant-loop-key
invariant-loop-key l = value_of l.sought (drop l.key-index l.environment) ≡ value_of l.sought l.environment
