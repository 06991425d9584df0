use Rattle.std.proofs.Common.{◌≡◌, [], ◌∷◌, sym, ◌∙◌, ap, subst}
use Rattle.std.proofs.lemmas.List.{get_or_default}
use Rattle.model.specs.Choices.{closure_plan}
use Rattle.realise.specs.Holdings.{Holdings}
use Rattle.trust.specs.Trusting.{trusts}
use Rattle.choose.specs.Visible.{desks_of}
use Rattle.handlers.specs.Viewing.{bare, desk_at}
use Rattle.handlers.proofs.ClosureLemmas.{IsPlanFor, planned_at, closure_of_plan, view_complete}
use Rattle.handlers.proofs.StateLemmas.{complete_desks, has_desk}
use Rattle.handlers.proofs.given.plan_for.Goals as goal

pub new-view-requires-clause-stored : goal.new-view-requires-clause-stored
new-view-requires-clause-stored c =
    let s = c.args.state.now in
    (view_complete (trusts s.trust) c.args.place s.table.sources s.desks.items (desks_of c.in_ok-seen.seen.items) (complete_desks s)
    c.in_ok-seen.ensures).stored

pub new-view-requires-clause-closed : goal.new-view-requires-clause-closed
new-view-requires-clause-closed c =
    let s = c.args.state.now in
    (view_complete (trusts s.trust) c.args.place s.table.sources s.desks.items (desks_of c.in_ok-seen.seen.items) (complete_desks s)
    c.in_ok-seen.ensures).closed

pub returns-clause-planned : goal.returns-clause-planned
returns-clause-planned c =
    let s = c.args.state.now in
    let place = c.args.place in
    let same : desk_at s.desks.items place ≡ c.index.result.now =
    get_or_default s.desks.items place bare c.index.result.now (has_desk s place c.requires) ∙ sym c.index.ensures in
    let pins : c.pins.result.now ≡ (desk_at s.desks.items place).pins = c.pins.ensures ∙ ap (λ (d : Holdings). d.pins) (sym same) in
    let class : c.in_ok-clone.field-0 ≡ c.args.class.now = c.in_ok-clone.ensures.cases in
    planned_at (trusts s.trust) s.table.sources s.desks.items (desks_of c.in_ok-seen.seen.items) place c.args.class.now c.plan.result c.in_ok-seen.ensures
    (λ o sees. subst (IsPlanFor c.plan.result) (λ i. closure_plan o (pins i) (class i ∷ []) []) (c.plan.ensures.planned o (sees ∙ sym c.new-view.ensures)))

pub returns-clause-closures : goal.returns-clause-closures
returns-clause-closures c =
    let s = c.args.state.now in
    closure_of_plan c.closures_are_whole.ensures s.table.sources (desks_of c.in_ok-seen.seen.items) c.pins.result.now (c.in_ok-clone.field-0 ∷ [])
    [] c.plan.result
    (view_complete (trusts s.trust) c.args.place s.table.sources s.desks.items (desks_of c.in_ok-seen.seen.items) (complete_desks s)
    c.in_ok-seen.ensures).closed
    (λ o sees. c.plan.ensures.planned o (sees ∙ sym c.new-view.ensures))
