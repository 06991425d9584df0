use Rattle.std.proofs.Common.{◌∙◌}
use Rattle.path_sets.proofs.PathSetLemmas.{names_tell}
use Rattle.path_sets.proofs.path_table.PathTable.is_same.Goals as goal

pub returns : goal.returns
returns c = rw (← c.self.view_is, ← c.other.view_is) (c.eq.ensures
    ∙ names_tell c.self.inside.paths.items c.other.inside.paths.items c.self.inside.names.items c.other.inside.names.items
    c.self.invariant.paths_are c.other.invariant.paths_are c.self.invariant.names_are c.other.invariant.names_are)
