use Rattle.std.proofs.Common.{sym, ◌∙◌}
use Rattle.classes.proofs.EntryLemmas.{known_entries}
use Rattle.classes.proofs.known.Known.derivation.Goals as goal

pub returns : goal.returns
returns c = rw (← c.self.view_is) (c.get.ensures.value ∙ sym (known_entries c.args.path.now c.self.inside.sources c.self.inside.derivations.entries c.self.invariant))
