use Rattle.std.proofs.Common.{◌≡◌, ◌++◌, take}
use Rattle.rewrite.proofs.settling.push_all.Given as goal

abbrev pub invariant-loop-path : goal.invariant-loop-path
invariant-loop-path l = l.paths.items ≡ l.initial.paths.items ++ take l.path-index l.more
