use Rattle.std.proofs.Common.{◌≡◌, ℕ, ◌<◌, List, [], drop, slice_index_or}
use Rattle.model.specs.Paths.{IsPath}
use Rattle.model.specs.Derivations.{ascend}
use Rattle.aterm.proofs.derivation.ascend.Given as goal

abbrev pub invariant-loop-path : goal.invariant-loop-path
invariant-loop-path l = record {
  order : ascend l.last (drop l.path-index l.paths) ≡ ascend [] l.paths;
  are_paths : (k : ℕ) (d : List ℕ) → k < l.path-index → IsPath (slice_index_or l.paths k d);
}
