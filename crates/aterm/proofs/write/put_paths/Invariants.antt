use Rattle.std.proofs.Common.{◌≡◌, ◌++◌, [], map, drop}
use Rattle.model.specs.Derivations.{listed}
use Rattle.aterm.specs.Writing.{between}
use Rattle.aterm.proofs.write.put_paths.Given as goal

abbrev pub invariant-loop-path : goal.invariant-loop-path
invariant-loop-path l =
    l.out.items ++ listed l.separator (map (between l.opening l.closing) (drop l.path-index l.paths))
    ≡ l.initial.out.items ++ listed [] (map (between l.opening l.closing) l.paths)
