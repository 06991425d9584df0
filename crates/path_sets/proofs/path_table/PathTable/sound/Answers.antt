use Rattle.path_sets.proofs.PathSetLemmas.{are_keys}
use Rattle.path_sets.proofs.path_table.PathTable.sound.Goals as goal

pub returns-clause-keys : goal.returns-clause-keys
returns-clause-keys c = rw (← c.self.view_is) (are_keys c.self.inside.paths.items c.self.invariant.parts_are)
