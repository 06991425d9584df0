use Rattle.std.proofs.Common.{◌≡◌, sym, ◌∙◌, ap}
use Rattle.std.proofs.lemmas.List.{get_or_default}
use Rattle.model.specs.Resolutions.{input_classes}
use Rattle.realise.specs.Holdings.{Holdings}
use Rattle.handlers.specs.Viewing.{bare, desk_at}
use Rattle.handlers.proofs.StateLemmas.{has_desk}
use Rattle.goals.proofs.ResolveLemmas.{classes_are}
use Rattle.goals.proofs.planning.classes_for.Goals as goal

pub returns-clause-classes : goal.returns-clause-classes
returns-clause-classes c =
    let s = c.args.state.now in
    let desk : Holdings = desk_at s.desks.items c.args.place in
    let same : desk ≡ c.index.result.now =
    get_or_default s.desks.items c.args.place bare c.index.result.now (has_desk s c.args.place c.requires) ∙ sym c.index.ensures in
    let known : c.known.result.now ≡ desk.known = c.known.ensures ∙ ap (λ (x : Holdings). x.known) (sym same) in
    classes_are c.input_classes.result _ _ (ap (λ k. input_classes k c.args.derivation.now) known) c.input_classes.ensures
