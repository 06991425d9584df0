use Rattle.std.proofs.Common.{◌≡◌, take}
use Rattle.aterm.proofs.read.read_paths.Given as goal

abbrev pub invariant-loop-text : goal.invariant-loop-text
invariant-loop-text l = l.paths.items ≡ take l.text-index l.texts
