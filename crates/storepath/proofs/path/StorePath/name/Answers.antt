use Rattle.std.proofs.Common.{◌≤◌, length, arith, ◌∙◌, ap}
use Rattle.std.proofs.lemmas.List.{take_rest}
use Rattle.storepath.specs.Parts.{name_of}
use Rattle.storepath.proofs.PathLemmas.{length-IsPath, name_of-path_text}
use Rattle.storepath.proofs.path.StorePath.name.Goals as goal

pub slice_bounds-result-count : goal.slice_bounds-result-count
slice_bounds-result-count c = rw c.bytes.ensures.value (length-IsPath c.args.self.now c.bytes.ensures.path)

pub slice_bounds-result-start : goal.slice_bounds-result-start
slice_bounds-result-start c =
    let long : 44 ≤ length c.bytes.result.now = rw c.bytes.ensures.value (length-IsPath c.args.self.now c.bytes.ensures.path) in
    omega arith

pub returns-clause-value : goal.returns-clause-value
returns-clause-value c = rw c.bytes.ensures.value (take_rest c.args.self.now 44)

pub returns-clause-part : goal.returns-clause-part
returns-clause-part c =
    let path = c.bytes.ensures.path in
    rw c.bytes.ensures.value (path, take_rest c.args.self.now 44 ∙ ap name_of path.is ∙ name_of-path_text path.hash_part path.name)
