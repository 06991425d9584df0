use Rattle.std.proofs.Common.{◌≡◌, sym, ◌∙◌, ap, subst}
use Rattle.std.proofs.lemmas.List.{get_or_default}
use Rattle.model.specs.Derivations.{Derivation}
use Rattle.model.specs.Choices.{closure_plan}
use Rattle.realise.specs.Holdings.{Holdings}
use Rattle.trust.specs.Trusting.{trusts}
use Rattle.choose.specs.Visible.{desks_of}
use Rattle.handlers.specs.Viewing.{bare, desk_at}
use Rattle.handlers.proofs.ClosureLemmas.{IsPlanFor, closure_of_plan, view_complete}
use Rattle.handlers.proofs.StateLemmas.{complete_desks, has_desk}
use Rattle.goals.proofs.ResolveLemmas.{planned_to_build}
use Rattle.goals.proofs.planning.plan_to_build.Goals as goal

pub new-view-requires-clause-stored : goal.new-view-requires-clause-stored
new-view-requires-clause-stored c =
    let s = c.args.state.now in
    (view_complete (trusts s.trust) c.args.place s.table.sources s.desks.items (desks_of c.in_ok-seen.seen.items) (complete_desks s)
    c.in_ok-seen.ensures).stored

pub new-view-requires-clause-closed : goal.new-view-requires-clause-closed
new-view-requires-clause-closed c =
    let s = c.args.state.now in
    (view_complete (trusts s.trust) c.args.place s.table.sources s.desks.items (desks_of c.in_ok-seen.seen.items) (complete_desks s)
    c.in_ok-seen.ensures).closed

pub returns-clause-planned : goal.returns-clause-planned
returns-clause-planned c =
    let s = c.args.state.now in
    let place = c.args.place in
    let d : Derivation = c.args.derivation.now in
    let desk : Holdings = desk_at s.desks.items place in
    let same : desk ≡ c.index.result.now =
    get_or_default s.desks.items place bare c.index.result.now (has_desk s place c.requires.of_run) ∙ sym c.index.ensures in
    let pins : c.pins-pins.result.now ≡ desk.pins = c.pins-pins.ensures ∙ ap (λ (x : Holdings). x.pins) (sym same) in
    let sources : c.deref.result.now ≡ d.sources = c.deref.ensures.value ∙ ap (λ (x : Derivation). x.sources) c.parts.ensures.parts in
    planned_to_build (trusts s.trust) s.table.sources s.desks.items (desks_of c.in_ok-seen.seen.items) place d c.plan.result c.in_ok-seen.ensures
    (λ o sees. subst (IsPlanFor c.plan.result) (λ i. closure_plan o (pins i) (c.requires.classes i) (sources i))
    (c.plan.ensures.planned o (sees ∙ sym c.new-view.ensures)))

pub returns-clause-closures : goal.returns-clause-closures
returns-clause-closures c =
    let s = c.args.state.now in
    closure_of_plan c.closures_are_whole.ensures s.table.sources (desks_of c.in_ok-seen.seen.items) c.pins-pins.result.now c.args.classes.now
    c.deref.result.now c.plan.result
    (view_complete (trusts s.trust) c.args.place s.table.sources s.desks.items (desks_of c.in_ok-seen.seen.items) (complete_desks s)
    c.in_ok-seen.ensures).closed
    (λ o sees. c.plan.ensures.planned o (sees ∙ sym c.new-view.ensures))
