use Rattle.std.proofs.Common.{ap, ◌∙◌}
use Rattle.realise.specs.Pinned.{pins_at}
use Rattle.realise.proofs.PinLemmas.{pinned_entries}
use Rattle.realise.proofs.pins.Pins.put.Goals as goal

pub returns : goal.returns
returns c = rw (← c.self.view_is) (ap pins_at c.in_ok-_older.ensures.entries ∙ pinned_entries c.args.class c.args.path c.self.inside.paths.entries)
