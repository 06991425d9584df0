use Rattle.std.proofs.Common.{◌≡◌, ap, ◌∙◌}
use Rattle.std.proofs.lemmas.Result.{IfOk-weaker}
use Rattle.model.specs.Derivations.{name_of}
use Rattle.model.specs.References.{paths_of_labels}
use Rattle.model.specs.Results.{unless_rewrite_refused}
use Rattle.model.specs.Settling.{hash_part_in, settled}
use Rattle.laws.proofs.MapLemmas.{settled_by_set}
use Rattle.outputs.specs.Outputs.{input_settled, paths_in}
use Rattle.outputs.proofs.settlements.Settlements.settle_output.Goals as goal

pub returns-clause-outcome : goal.returns-clause-outcome
returns-clause-outcome c =
    let input = c.in_ok-input.input in
    let is = c.in_ok-input.ensures.input in
    let tree = c.args.tree.now in
    let own = hash_part_in c.args.own.now in
    let paths = paths_of_labels c.args.candidates.now in
    let name = name_of c.args.derivation.now in
    let same : input_settled input tree ≡ settled tree own paths name =
    ap (λ path. settled tree (hash_part_in path) (paths_in input) input.name) is.own_is ∙ ap (settled tree own (paths_in input)) is.name_is
    ∙ (settled_by_set tree own (paths_in input) paths name is.candidates_are).0 in
    IfOk-weaker c.settle.result _ _ (λ o settles. settles ∙ ap unless_rewrite_refused same) c.settle.ensures.outcome

pub returns-clause-kept : goal.returns-clause-kept
returns-clause-kept c =
    IfOk-weaker c.settle.result _ _ (λ o has. record { input = c.in_ok-input.input; input_is = c.in_ok-input.ensures.input; has = has }) c.settle.ensures.kept
