use Rattle.std.proofs.Common.{◌≡◌, ◌||◌, ℕ, List, drop}
use Rattle.std.specs.Prelude.{bytes_eq}
use Rattle.std.specs.List.{list_any}
use Rattle.outputs.specs.Reaching.{has_class}
use Rattle.outputs.proofs.below.classes_of.Given as goal

abbrev pub invariant-loop-pair : goal.invariant-loop-pair
invariant-loop-pair l =
    (class : List ℕ) → (has_class l.classes.keys class || list_any (λ pair. bytes_eq class pair.1) (drop l.pair-index l.named.keys))
    ≡ list_any (λ pair. bytes_eq class pair.1) l.named.keys
