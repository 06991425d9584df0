use Rattle.std.specs.Prelude.{◌++◌, ◌∷◌, []}
use Rattle.history.proofs.log.Log.grow.Given as goal

abbrev pub ghosts-grow_to : goal.ghosts-grow_to
ghosts-grow_to g a = record { rows = a.self.now.rows ++ a.row.now ∷ [] }
