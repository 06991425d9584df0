use Rattle.storepath.proofs.PathTests.{path_passes}
use Rattle.storepath.proofs.path.StorePath.bytes.Goals as goal

pub returns-clause-passes : goal.returns-clause-passes
returns-clause-passes c = rw (← c.self.view_is) (path_passes c.self.inside.text c.self.invariant)
