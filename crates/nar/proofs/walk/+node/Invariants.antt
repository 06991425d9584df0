use Rattle.std.proofs.Common.{◌≡◌, ◌++◌, ℕ, List, drop}
use Rattle.model.specs.Archives.{entries_text}
use Rattle.nar.specs.NodeTrees.{entries_of}
use Rattle.nar.proofs.walk.+node.Given as goal

-- the entries up to the next one are taken
abbrev pub invariant-put_entries-loop-entry : goal.invariant-put_entries-loop-entry
invariant-put_entries-loop-entry g l = (start : g.row.S.Denot) (taken : List ℕ) → g.S.Sink.took start l.fn.sink taken
    → (k : List ℕ) × g.S.Sink.took start l.sink k
    × (k ++ entries_text (entries_of (drop l.entry-index l.entries)) ≡ taken ++ entries_text (entries_of l.entries))
