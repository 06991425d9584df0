use Rattle.std.proofs.Common.{[], ◌∷◌, ◌++◌, ap, ◌∙◌}
use Rattle.std.specs.List.{list_any}
use Rattle.std.proofs.lemmas.Result.{err_from_is_err_and}
use Rattle.model.specs.Resolutions.{put_variable}
use Rattle.rewrite.proofs.StepLemmas.{mapped_next, none_next, one_passes}
use Rattle.resolving.specs.Resolving.{is_variable_crowded}
use Rattle.resolving.proofs.ResolvingLemmas.{overlap_from}
use Rattle.resolving.proofs.strings.put_variables.Goals as goal

pub returns-in_err-put_variable : goal.returns-in_err-put_variable
returns-in_err-put_variable c =
    let p = err_from_is_err_and c.from_residual.result c.from_residual.ensures.1 in
    let crowded = is_variable_crowded c.args.replacer.now in
    let variable = c.loop-key-item.result in
    rw (p.1, p.2) (overlap_from (crowded variable) (list_any crowded c.args.environment.now) c.in_err-put_variable.field-0.0
    (one_passes crowded c.args.environment.now c.loop-key.key-index variable c.loop-key-test.true c.loop-key-item.is) c.in_err-put_variable.ensures)

pub loop-key-preserved : goal.loop-key-preserved
loop-key-preserved c =
    let images = c.args.replacer.now in
    let environment = c.args.environment.now in
    let k = c.loop-key.key-index in
    let variable = c.loop-key-item.result in
    let lt = c.loop-key-test.true in
    let before = c.loop-key.invariant in
    record {
      apart = none_next (is_variable_crowded images) environment k variable lt c.loop-key-item.is before.apart c.in_ok-put_variable.ensures.0;
      variables =
          mapped_next (put_variable images) [] environment k variable c.loop-key.new.items c.push.new.self.items lt c.loop-key-item.is before.variables
          (c.in_ok-push.ensures.items ∙ ap (λ new. c.loop-key.new.items ++ new ∷ []) c.in_ok-put_variable.ensures.1);
    }
