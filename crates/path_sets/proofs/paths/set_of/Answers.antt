use Rattle.std.proofs.Common.{◌≡◌, List, ℕ, sym, ap, ◌∙◌}
use Rattle.std.specs.Prelude.{bytes_eq}
use Rattle.std.specs.List.{list_any}
use Rattle.std.proofs.lemmas.List.{map-id}
use Rattle.std.proofs.lemmas.Iterator.{items_from_drains}
use Rattle.std.proofs.lemmas.Iterator.Adapters.{YieldsList-from_vec}
use Rattle.path_sets.proofs.PathSetLemmas.{one_of_keys}
use Rattle.path_sets.proofs.paths.set_of.Goals as goal

pub returns : goal.returns
returns c path =
    let paths : List (List ℕ) = c.args.paths.now in
    let ran = c.in_ok-from_iter.ensures.ran in
    let copied : c.in_ok-copies.copies.items ≡ paths = c.in_ok-copies.ensures.items_if_clones_equal (λ x y same. same) in
    let all = items_from_drains ran.1 ran.3 (YieldsList-from_vec paths (ran.2.0 ∙ copied) (ran.2.1 ∙ c.in_ok-copies.ensures.len)) in
    let taken : ran.1 ≡ paths = sym (map-id ran.1) ∙ all in
    ran.4.1.0 path ∙ ap (list_any (bytes_eq path)) taken ∙ one_of_keys path paths
