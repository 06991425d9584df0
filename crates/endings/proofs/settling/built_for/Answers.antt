use Rattle.std.proofs.Common.{◌≡◌, ◌∙◌, ap, rules, subst, Some}
use Rattle.std.specs.Prelude.{All}
use Rattle.model.specs.Paths.{IsPath}
use Rattle.model.specs.References.{paths_of_labels}
use Rattle.model.specs.Worlds.{Resolved}
use Rattle.model.specs.Endings.{labels_from}
use Rattle.model.specs.Classes.{Admission, known_at}
use Rattle.endings.specs.Built.{IsBuiltOn, record_under}
use Rattle.endings.proofs.BuiltLemmas.{built_closed, has_input}
use Rattle.std.proofs.lemmas.Result.{err_from_is_err_and}
use Rattle.endings.proofs.settling.built_for.Goals as goal

pub returns-clause-built : goal.returns-clause-built
returns-clause-built c =
    let r : Resolved = c.in-Some-resolved.resolved.now in
    let a : Admission = c.in-Some.admitted.now in
    let known : known_at c.args.desk.now.known c.args.goal.now.derivation ≡ Some a = search rules in
    let is : c.args.goal.now.resolved ≡ Some r = search rules in
    let path : c.scratch.result.now ≡ r.scratch = search rules in
    let labels : c.of_labels-candidates.result ≡ labels_from r = search rules in
    rw (known, is) (c.in_ok-built.ensures.built ∙ ap (λ p. record_under p c.of_labels-candidates.result a c.args.tree.now) path
    ∙ ap (λ ls. record_under r.scratch ls a c.args.tree.now) labels)

pub returns-clause-closed : goal.returns-clause-closed
returns-clause-closed c =
    let r : Resolved = c.in-Some-resolved.resolved.now in
    let is : c.args.goal.now.resolved ≡ Some r = search rules in
    let labels : c.of_labels-candidates.result ≡ labels_from r = search rules in
    built_closed c.args.desk.now r c.in-Some.admitted.now c.scratch.result.now c.of_labels-candidates.result c.args.tree.now c.in_ok-built.built
    labels c.in_ok-built.ensures.built (subst (IsBuiltOn c.args.desk.now) is c.requires.on_desk)

pub returns-clause-input : goal.returns-clause-input
returns-clause-input c =
    let r : Resolved = c.in-Some-resolved.resolved.now in
    let is : c.args.goal.now.resolved ≡ Some r = search rules in
    let paths : All IsPath (paths_of_labels (labels_from r)) = search rules in
    rw is (has_input c.args.tree.now r c.in_ok-built.built (search rules) (search rules) paths)

pub returns-in_err-labels : goal.returns-in_err-labels
returns-in_err-labels c =
    let p = err_from_is_err_and c.from_residual.result c.from_residual.ensures.1 in
    rw (p.1, p.2) (record { built = tt; closed = tt; input = tt; memory = c.in_err-labels.ensures.memory })

pub returns-in_err-built : goal.returns-in_err-built
returns-in_err-built c =
    let p = err_from_is_err_and c.from_residual-in_err-built.result c.from_residual-in_err-built.ensures.1 in
    rw (p.1, p.2) (record { built = tt; closed = tt; input = tt; memory = c.in_err-built.ensures.memory })
