use Rattle.std.proofs.Common.{◌≡◌, ◌∷◌, ◌++◌, drop}
use Rattle.std.specs.Prelude.{flat_map}
use Rattle.model.specs.Talk.{entry_text}
use Rattle.lines.proofs.entries.add_entries.Given as goal

-- the text so far, and then that of the entries left
abbrev pub invariant-loop-entry : goal.invariant-loop-entry
invariant-loop-entry l =
    l.text.items ++ flat_map (λ e. 32 ∷ entry_text e) (drop l.entry-index l.entries) ≡ l.fn.text.items ++ flat_map (λ e. 32 ∷ entry_text e) l.entries
