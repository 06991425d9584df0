use Rattle.std.proofs.Common.{◌≡◌, ◌||◌, ℕ, List, drop}
use Rattle.std.specs.List.{list_any}
use Rattle.outputs.specs.Reaching.{is_news, is_named}
use Rattle.outputs.proofs.below.add_labels.Given as goal

abbrev pub invariant-loop-label : goal.invariant-loop-label
invariant-loop-label l =
    (path class : List ℕ) → (is_named l.named.keys path class || list_any (is_news l.inputs.keys l.seen.keys class path) (drop l.label-index l.labels))
    ≡ (is_named l.initial.named.keys path class || list_any (is_news l.inputs.keys l.seen.keys class path) l.labels)
