use Rattle.std.proofs.Common.{◌≤◌, ◌<◌, List, ℕ, length, arith, subst, sym}
use Rattle.std.proofs.lemmas.List.{take_rest}
use Rattle.storepath.proofs.PathLemmas.{length-IsPath}
use Rattle.path_sets.proofs.PathSetLemmas.{base_name_is_short}
use Rattle.path_sets.proofs.path_table.base_name.Goals as goal

pub slice_bounds-result-count : goal.slice_bounds-result-count
slice_bounds-result-count c =
    let long : 44 ≤ length c.bytes.result.now = rw c.bytes.ensures.value (length-IsPath c.args.path.now c.bytes.ensures.path) in
    omega arith

pub slice_bounds-result-start : goal.slice_bounds-result-start
slice_bounds-result-start c =
    let long : 44 ≤ length c.bytes.result.now = rw c.bytes.ensures.value (length-IsPath c.args.path.now c.bytes.ensures.path) in
    omega arith

pub returns-clause-value : goal.returns-clause-value
returns-clause-value c = rw c.bytes.ensures.value (take_rest c.args.path.now 11)

pub returns-clause-short : goal.returns-clause-short
returns-clause-short c =
    rw c.bytes.ensures.value (subst (λ (name : List ℕ). length name < 256) (sym (take_rest c.args.path.now 11))
    (base_name_is_short c.args.path.now c.bytes.ensures.path))
