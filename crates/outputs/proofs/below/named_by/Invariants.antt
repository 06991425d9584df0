use Rattle.std.proofs.Common.{◌≡◌, ◌||◌, ℕ, List, drop}
use Rattle.std.specs.List.{list_any}
use Rattle.outputs.specs.Reaching.{is_named, is_news}
use Rattle.outputs.proofs.below.named_by.Given as goal

abbrev pub invariant-loop-record : goal.invariant-loop-record
invariant-loop-record l =
    (path class : List ℕ)
    → (is_named l.named.keys path class || list_any (λ r. list_any (is_news l.inputs.keys l.seen.keys class path) r.labels) (drop l.record-index l.fresh))
    ≡ list_any (λ r. list_any (is_news l.inputs.keys l.seen.keys class path) r.labels) l.fresh
