use Rattle.std.proofs.Common.{◌≡◌, List, ℕ, ◌++◌, not, ap, ◌∙◌}
use Rattle.std.specs.Prelude.{filter}
use Rattle.model.specs.Classes.{is_one_of, sorted}
use Rattle.classes.proofs.Order.{sort_gives}
use Rattle.classes.proofs.file_path.references.Goals as goal

pub returns : goal.returns
returns c =
    let inputs = c.args.inputs.now in
    let others : List (List ℕ) = filter (λ path. not (is_one_of inputs path)) c.args.sources.now in
    let copied : c.in_ok-paths.paths.items ≡ inputs = c.in_ok-paths.ensures.items_if_clones_equal (λ x y same. same) in
    sort_gives c.add_others.new.paths.items c.sort.new.self.items c.sort.ensures.permutation c.in_ok-sort.ensures.sorted
    ∙ ap sorted (c.in_ok-add_others.ensures ∙ ap (λ (paths : List (List ℕ)). paths ++ others) copied)
