use Rattle.std.proofs.Common.{◌≡◌, ◌∙◌}
use Rattle.repair.proofs.repair.Repair.new.Goals as goal

pub invariant_of-result : goal.invariant_of-result
invariant_of-result c =
    let r = c.args.chosen.now in
    let class : c.in_ok-class.class ≡ r.class = c.in_ok-class.ensures.cases ∙ c.class.ensures in
    let path : c.in_ok-path.path ≡ r.path = c.in_ok-path.ensures.cases ∙ c.path.ensures in
    let tree : c.in_ok-tree.tree ≡ r.tree = c.in_ok-tree.ensures.cases ∙ c.tree.ensures in
    let replacements : c.in_ok-replacements.replacements.items ≡ c.args.replacements.now = c.in_ok-replacements.ensures.items_if_clones_equal (λ one copy same. same) in
    record { is = rw (class, path, tree, replacements) (c.in_ok-outcome.ensures ∙ c.requires) }
