use Rattle.std.proofs.Common.{ap, sym, ◌∙◌}
use Rattle.std.specs.Prelude.{◌≡◌, bytes_eq, None}
use Rattle.std.specs.Map.{lookup, remove_entry}
use Rattle.realise.specs.Pinned.{pins_at}
use Rattle.realise.proofs.PinLemmas.{unpinned_entries}
use Rattle.realise.proofs.pins.Pins.remove.Goals as goal

pub returns : goal.returns
returns c =
    let class = c.args.class.now in
    let old = c.self.inside.paths.entries in
    let none : lookup (bytes_eq class) (remove_entry (bytes_eq class) old) ≡ None =
    ap (lookup (bytes_eq class)) (sym c.shift_remove-path.ensures.entries) ∙ c.shift_remove-path.ensures.updates.1 in
    rw (← c.self.view_is) (ap pins_at c.shift_remove-path.ensures.entries ∙ unpinned_entries class old none)
