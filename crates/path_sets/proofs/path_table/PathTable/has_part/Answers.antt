use Rattle.std.proofs.Common.{ℕ, List, length, ap, sym, ◌∙◌}
use Rattle.std.specs.Prelude.{◌==◌, not}
use Rattle.path_sets.proofs.PathSetLemmas.{part_is_there}
use Rattle.path_sets.proofs.path_table.PathTable.has_part.Goals as goal

pub returns : goal.returns
returns c = ap not (c.is_empty.ensures ∙ ap (λ (items : List (List ℕ)). length items == 0) c.with_digits.ensures)
    ∙ sym (part_is_there c.args.window.now c.args.self.now)
