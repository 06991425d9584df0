use Rattle.std.proofs.Common.{[], ◌∷◌, ◌++◌, ap, ◌∙◌}
use Rattle.std.specs.List.{list_any}
use Rattle.std.proofs.lemmas.Result.{err_from_is_err_and}
use Rattle.model.specs.Substitutions.{put_text}
use Rattle.model.specs.Resolutions.{is_crowded}
use Rattle.rewrite.proofs.StepLemmas.{mapped_next, none_next, one_passes}
use Rattle.resolving.proofs.ResolvingLemmas.{overlap_from}
use Rattle.resolving.proofs.strings.put_texts.Goals as goal

pub returns-in_err-put_text : goal.returns-in_err-put_text
returns-in_err-put_text c =
    let p = err_from_is_err_and c.from_residual.result c.from_residual.ensures.1 in
    let crowded = is_crowded c.args.replacer.now in
    let text = c.text-item.result in
    rw (p.1, p.2) (overlap_from (crowded text) (list_any crowded c.args.texts.now) c.in_err-put_text.field-0.0
    (one_passes crowded c.args.texts.now c.loop-text.text-index text c.loop-text-test.true c.text-item.is) c.in_err-put_text.ensures)

pub loop-text-preserved : goal.loop-text-preserved
loop-text-preserved c =
    let images = c.args.replacer.now in
    let texts = c.args.texts.now in
    let k = c.loop-text.text-index in
    let text = c.text-item.result in
    let lt = c.loop-text-test.true in
    let before = c.loop-text.invariant in
    record {
      apart = none_next (is_crowded images) texts k text lt c.text-item.is before.apart c.in_ok-put_text.ensures.0;
      texts =
          mapped_next (put_text images) [] texts k text c.loop-text.new.items c.push.new.self.items lt c.text-item.is before.texts
          (c.in_ok-push.ensures.items ∙ ap (λ new. c.loop-text.new.items ++ new ∷ []) c.in_ok-put_text.ensures.1);
    }
