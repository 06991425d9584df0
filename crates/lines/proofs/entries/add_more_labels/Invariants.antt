use Rattle.std.proofs.Common.{◌≡◌, ◌∷◌, ◌++◌, drop}
use Rattle.std.specs.Prelude.{flat_map}
use Rattle.model.specs.Talk.{label_text}
use Rattle.lines.proofs.entries.add_more_labels.Given as goal

-- the text so far, and then that of the labels left
abbrev pub invariant-loop-label : goal.invariant-loop-label
invariant-loop-label l =
    l.text.items ++ flat_map (λ k. 44 ∷ label_text k) (drop l.label-index l.labels) ≡ l.fn.text.items ++ flat_map (λ k. 44 ∷ label_text k) l.labels
