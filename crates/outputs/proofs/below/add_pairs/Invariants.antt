use Rattle.std.proofs.Common.{◌≡◌, ◌||◌, ℕ, List, drop}
use Rattle.outputs.specs.Reaching.{is_named}
use Rattle.outputs.proofs.below.add_pairs.Given as goal

abbrev pub invariant-loop-pair : goal.invariant-loop-pair
invariant-loop-pair l =
    (path class : List ℕ) → (is_named l.seen.keys path class || is_named (drop l.pair-index l.named.keys) path class)
    ≡ (is_named l.initial.seen.keys path class || is_named l.named.keys path class)
