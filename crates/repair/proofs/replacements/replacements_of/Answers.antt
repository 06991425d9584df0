use Rattle.std.proofs.Common.{inl, inr, ◌∙◌, ap, sym, subst, All, arith, Ok}
use Rattle.std.proofs.lemmas.Result.{err_from_is_err_and}
use Rattle.std.proofs.lemmas.List.{take_all}
use Rattle.std.proofs.lemmas.List.Elements.{All-nil}
use Rattle.model.specs.Paths.{IsPath}
use Rattle.model.specs.Worlds.{Label}
use Rattle.model.specs.References.{paths_of_labels}
use Rattle.model.specs.Repairs.{replacement_of, replacements_of}
use Rattle.repair.specs.Served.{served_in}
use Rattle.repair.proofs.TurnLemmas.{each_none, each_step, each_stop}
use Rattle.repair.proofs.RelabellingLemmas.{paths_step}
use Rattle.repair.proofs.replacements.replacements_of.Goals as goal

pub loop-label-init : goal.loop-label-init
loop-label-init c = record {
  replacements = each_none (λ l. replacement_of (served_in c.args.served.now.entries c.args.rank) l l.class) c.new-replacements.result.items c.new-replacements.ensures.items;
  sound = All-nil IsPath;
}

pub returns-in_err-path-clause-replacements : goal.returns-in_err-path-clause-replacements
returns-in_err-path-clause-replacements c =
    let p = err_from_is_err_and c.from_residual.result c.from_residual.ensures.1 in
    rw (p.1, p.2) (elim c.in_err-path.ensures [
      | inl m ↦ inl m
      | inr e ↦ inr (each_stop (λ l. replacement_of (served_in c.args.served.now.entries c.args.rank) l l.class) c.args.labels.now c.loop-label.label-index c.label-item.result
          c.loop-label.replacements.items c.in_err-path.field-0.0 c.loop-label-test.true c.label-item.is c.loop-label.invariant.replacements e)
    ])

pub loop-label-preserved : goal.loop-label-preserved
loop-label-preserved c =
    let l = c.label-item.result in
    let path = c.in_ok-path.path in
    record {
      replacements =
          each_step (λ m. replacement_of (served_in c.args.served.now.entries c.args.rank) m m.class) c.args.labels.now c.loop-label.label-index l
          c.loop-label.replacements.items c.push.new.self.items (record { label = c.in_ok-label.label; path = path })
          c.loop-label-test.true c.label-item.is c.loop-label.invariant.replacements
          (c.in_ok-path.ensures ∙ ap (λ (m : Label). Ok (record { label = m; path = path })) (sym c.in_ok-label.ensures.cases)) c.in_ok-push.ensures.items;
      sound = paths_step c.args.labels.now c.loop-label.label-index l c.loop-label-test.true c.label-item.is c.loop-label.invariant.sound
          (subst IsPath c.path.ensures c.sound.ensures);
    }

pub returns-clause-replacements : goal.returns-clause-replacements
returns-clause-replacements c =
    ap (replacements_of (served_in c.args.served.now.entries c.args.rank)) (sym (take_all c.loop-label.label-index c.args.labels.now (omega arith)))
    ∙ c.loop-label.invariant.replacements

pub returns-clause-sound : goal.returns-clause-sound
returns-clause-sound c =
    subst (λ ls. All IsPath (paths_of_labels ls)) (take_all c.loop-label.label-index c.args.labels.now (omega arith)) c.loop-label.invariant.sound
