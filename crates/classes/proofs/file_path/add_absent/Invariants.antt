use Rattle.std.proofs.Common.{◌≡◌, ◌++◌, drop}
use Rattle.std.specs.Prelude.{filter}
use Rattle.classes.specs.Inputs.{is_absent}
use Rattle.classes.proofs.file_path.add_absent.Given as goal

abbrev pub invariant-loop-path : goal.invariant-loop-path
invariant-loop-path l =
    l.paths.items ++ filter (is_absent l.set.keys) (drop l.path-index l.sources) ≡ l.fn.paths.items ++ filter (is_absent l.set.keys) l.sources
