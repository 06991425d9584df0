use Rattle.std.proofs.Common.{inr, ◌∙◌, ap}
use Rattle.std.specs.List.{list_any}
use Rattle.model.specs.Repairs.{is_replaced_by}
use Rattle.repair.proofs.RelabellingLemmas.{relabelled_not, relabelled_own, relabelled_by}
use Rattle.repair.proofs.relabelling.relabelled.Goals as goal

pub returns-then-not-is_any_replaced-clause-answer : goal.returns-then-not-is_any_replaced-clause-answer
returns-then-not-is_any_replaced-clause-answer c =
    relabelled_not c.args.chosen.now c.in_ok-clone.field-0 c.args.replacements.now c.if-not-is_any_replaced.ensures c.in_ok-clone.ensures.cases

pub returns-then-is_any_replaced_by-clause-answer : goal.returns-then-is_any_replaced_by-clause-answer
returns-then-is_any_replaced_by-clause-answer c =
    inr (relabelled_own c.args.chosen.now c.args.replacements.now c.if-not-is_any_replaced.ensures
    (c.if-is_any_replaced_by.ensures ∙ ap (λ path. list_any (is_replaced_by path) c.args.replacements.now) c.path.ensures))

pub returns-clause-answer : goal.returns-clause-answer
returns-clause-answer c =
    let is = relabelled_by c.args.chosen.now c.args.replacements.now c.if-not-is_any_replaced.ensures
    (c.if-is_any_replaced_by.ensures ∙ ap (λ path. list_any (is_replaced_by path) c.args.replacements.now) c.path.ensures) in
    rw is c.repaired.ensures.answer
