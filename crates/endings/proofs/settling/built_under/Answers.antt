use Rattle.std.proofs.Common.{◌≡◌, ◌∙◌, ap, subst, Ok}
use Rattle.std.specs.Prelude.{IfOk}
use Rattle.model.specs.Results.{then_do, unless_rewrite_refused}
use Rattle.model.specs.Derivations.{Derivation, name_of}
use Rattle.model.specs.References.{paths_of_labels}
use Rattle.model.specs.Settling.{hash_part_in, settled}
use Rattle.model.specs.Outputs.{settled_under, record_for}
use Rattle.endings.specs.Built.{built_of}
use Rattle.endings.proofs.settling.built_under.Goals as goal

pub returns-clause-built : goal.returns-clause-built
returns-clause-built c =
    let a = c.args.admitted.now in
    let tree = c.args.tree.now in
    let labels = c.args.candidates.now in
    let path = c.args.path.now in
    let named = λ (x : Derivation). unless_rewrite_refused (settled tree (hash_part_in path) (paths_of_labels labels) (name_of x)) in
    let outcome : c.in_ok-settled.settled ≡ unless_rewrite_refused (settled_under path labels a tree) =
    c.in_ok-settled.ensures.outcome ∙ ap named c.derivation-derivation.ensures in
    subst (λ o. IfOk c.built_by.result (λ built. built_of built ≡ then_do o (λ s. Ok (record_for labels a s)))) outcome c.built_by.ensures.built
