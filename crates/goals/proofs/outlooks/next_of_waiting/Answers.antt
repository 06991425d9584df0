use Rattle.std.proofs.Common.{◌≡◌, sym, ◌∙◌, ap, subst}
use Rattle.std.specs.Prelude.{IfOk}
use Rattle.std.specs.Option.{option_copied}
use Rattle.model.specs.Derivations.{Derivation}
use Rattle.model.specs.Resolutions.{input_classes}
use Rattle.model.specs.Outlooks as model
use Rattle.jobs.specs.Outlooks.{next_of}
use Rattle.handlers.specs.Viewing.{desk_at}
use Rattle.handlers.specs.States.{observation_at}
use Rattle.goals.proofs.OutlookLemmas.{all_of_waiting}
use Rattle.goals.proofs.outlooks.next_of_waiting.Goals as goal

pub returns-clause-value : goal.returns-clause-value
returns-clause-value c =
    let s = c.args.state.now in
    let place = c.args.place in
    let classes : c.deref.result.now ≡ input_classes (desk_at s.desks.items place).known c.in-Some.admitted.now.derivation =
    c.deref.ensures.value ∙ c.in_ok-classes.ensures.classes
    ∙ ap (λ (d : Derivation). input_classes (desk_at s.desks.items place).known d) c.derivation.ensures in
    subst (λ known. IfOk c.next_by_inputs.result (λ next. next_of next ≡ model.next_of_waiting (observation_at s place) known))
    (ap option_copied (sym c.in-Some.is))
    (all_of_waiting s place c.requires c.in-Some.admitted.now c.deref.result.now c.next_by_inputs.result classes c.next_by_inputs.ensures.value)
