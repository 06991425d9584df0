use Rattle.storepath.proofs.PathLemmas.{path_is_utf8}
use Rattle.storepath.proofs.path.StorePathDisplay.fmt.Goals as goal

pub unreachable-requires : goal.unreachable-requires
unreachable-requires g c = c.in-Err.ensures.cases.0 (rw c.bytes.ensures.value (path_is_utf8 c.args.self.now c.bytes.ensures.path))
