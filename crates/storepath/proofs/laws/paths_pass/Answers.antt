use Rattle.storepath.proofs.PathTests.{path_from_test, path_passes}
use Rattle.storepath.proofs.laws.paths_pass.Goals as goal

pub returns : goal.returns
returns c = λ text. (path_from_test text, path_passes text)
