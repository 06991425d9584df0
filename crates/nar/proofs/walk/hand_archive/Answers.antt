use Rattle.std.proofs.Common.{◌++◌, List, ℕ, codes, ap, ◌∙◌, subst, append_assoc}
use Rattle.model.specs.Archives.{archive_string, node_text}
use Rattle.nar.specs.NodeTrees.{tree_of}
use Rattle.nar.proofs.walk.hand_archive.Goals as goal

pub returns-clause-archive : goal.returns-clause-archive
returns-clause-archive g c start taken took =
    let mark : List ℕ = archive_string (codes "nix-archive-1") in
    let text = append_assoc taken mark (node_text (tree_of c.deref.result.now)) ∙ ap (λ t. taken ++ (mark ++ node_text t)) (ap tree_of c.deref.ensures ∙ c.tree.view_is) in
    subst (g.S.Sink.took start c.put_node.new.sink) text (c.put_node.ensures start (taken ++ mark) (c.put_string.ensures start taken took))
