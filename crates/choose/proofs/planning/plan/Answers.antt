use Rattle.std.proofs.Common.{◌≡◌, sym, subst, inl, Ok, Err, ◌⊎◌}
use Rattle.std.proofs.lemmas.Result.{err_from_is_err_and}
use Rattle.std.specs.List.Sorted.{IsPermutation}
use Rattle.model.specs.declared.refusal.Refusal.TheVariants.{Memory}
use Rattle.model.specs.Choices.{Plan}
use Rattle.laws.proofs.ClosureLemmas.{chosen_among}
use Rattle.choose.specs.Visible.{choose_in, plan_in, desks_of}
use Rattle.choose.proofs.PlanLemmas.{plan_missing, plan_too_large, plan_found, plan_in_order}
use Rattle.choose.proofs.LabelledLemmas.{sees_in, labels_in, planned_sees}
use Rattle.choose.proofs.planning.plan.Goals as goal

pub returns-in_err-gathering-clause-planned : goal.returns-in_err-gathering-clause-planned
returns-in_err-gathering-clause-planned c desks is =
    let p = err_from_is_err_and c.from_residual.result c.from_residual.ensures.1 in
    let pins = c.args.pins.now in
    let e = c.in_err-gathering.field-0.0 in
    rw (p.1, p.2) (subst (λ v. (e ≡ Memory) ⊎ (plan_in v pins c.args.classes.now c.args.sources.now ≡ Err e)) (sym is)
    (plan_missing c.args.view.now pins c.args.classes.now c.args.sources.now e c.in_err-gathering.ensures))

pub returns-in_err-gather_sources-clause-planned : goal.returns-in_err-gather_sources-clause-planned
returns-in_err-gather_sources-clause-planned c desks is =
    let p = err_from_is_err_and c.from_residual-in_err-gather_sources.result c.from_residual-in_err-gather_sources.ensures.1 in
    let choice = choose_in c.args.view.now c.args.pins.now in
    rw (p.1, p.2) (inl (c.in_err-gather_sources.ensures choice c.args.classes.now c.args.classes.now (chosen_among c.args.view.now.records c.args.pins.now)
    (c.in_ok-gathering.ensures.1 c.args.sources.now)))

pub returns-in_err-gather_below-clause-planned : goal.returns-in_err-gather_below-clause-planned
returns-in_err-gather_below-clause-planned c desks is =
    let p = err_from_is_err_and c.from_residual-in_err-gather_below.result c.from_residual-in_err-gather_below.ensures.1 in
    let view = c.args.view.now in
    let pins = c.args.pins.now in
    let choice = choose_in view pins in
    let classes = c.args.classes.now in
    let sources = c.args.sources.now in
    let e = c.in_err-gather_below.field-0.0 in
    let g = c.in_ok-gather_sources.ensures choice classes classes (chosen_among view.records pins) (c.in_ok-gathering.ensures.1 sources) in
    rw (p.1, p.2) (subst (λ v. (e ≡ Memory) ⊎ (plan_in v pins classes sources ≡ Err e)) (sym is)
    (plan_too_large view pins classes sources e c.in_ok-gathering.ensures.0 (c.in_err-gather_below.ensures classes sources classes sources g)))

pub new-requires : goal.new-requires
new-requires c =
    let view = c.args.view.now in
    let pins = c.args.pins.now in
    let choice = choose_in view pins in
    let classes = c.args.classes.now in
    let sources = c.args.sources.now in
    let g = c.in_ok-gather_sources.ensures choice classes classes (chosen_among view.records pins) (c.in_ok-gathering.ensures.1 sources) in
    let h = c.in_ok-gather_below.ensures classes sources classes sources g in
    let made : Plan = record { records = c.in_ok-records.records.items; sources = c.in_ok-sources.sources.items } in
    plan_in_order view pins classes sources c.gather_below.new.gathering made h.0
    (subst (λ xs. IsPermutation xs c.in_ok-records.records.items) c.into_parts-found_records.ensures.records c.in_ok-records.ensures.0)
    c.in_ok-records.ensures.1
    (subst (λ xs. IsPermutation xs c.in_ok-sources.sources.items) c.into_parts-found_records.ensures.sources c.in_ok-sources.ensures.0)
    c.in_ok-sources.ensures.1

pub returns-clause-planned : goal.returns-clause-planned
returns-clause-planned c desks is =
    let view = c.args.view.now in
    let pins = c.args.pins.now in
    let choice = choose_in view pins in
    let classes = c.args.classes.now in
    let sources = c.args.sources.now in
    let g = c.in_ok-gather_sources.ensures choice classes classes (chosen_among view.records pins) (c.in_ok-gathering.ensures.1 sources) in
    let h = c.in_ok-gather_below.ensures classes sources classes sources g in
    let made : Plan = record { records = c.in_ok-records.records.items; sources = c.in_ok-sources.sources.items } in
    rw c.new.ensures (subst (λ v. plan_in v pins classes sources ≡ Ok made) (sym is)
    (plan_found view pins classes sources c.gather_below.new.gathering made c.in_ok-gathering.ensures.0 h.0 h.1
    (subst (λ xs. IsPermutation xs c.in_ok-records.records.items) c.into_parts-found_records.ensures.records c.in_ok-records.ensures.0)
    c.in_ok-records.ensures.1
    (subst (λ xs. IsPermutation xs c.in_ok-sources.sources.items) c.into_parts-found_records.ensures.sources c.in_ok-sources.ensures.0)
    c.in_ok-sources.ensures.1))

pub returns-clause-seen : goal.returns-clause-seen
returns-clause-seen c =
    let view = c.args.view.now in
    let pins = c.args.pins.now in
    let choice = choose_in view pins in
    let classes = c.args.classes.now in
    let sources = c.args.sources.now in
    let g = c.in_ok-gather_sources.ensures choice classes classes (chosen_among view.records pins) (c.in_ok-gathering.ensures.1 sources) in
    let h = c.in_ok-gather_below.ensures classes sources classes sources g in
    let moved = subst (λ xs. IsPermutation xs c.in_ok-records.records.items) c.into_parts-found_records.ensures.records c.in_ok-records.ensures.0 in
    rw c.new.ensures (planned_sees view pins classes sources c.gather_below.new.gathering c.in_ok-records.records.items h.0 moved
    (sees_in view c.view.inside.table.now.sources (desks_of c.view.inside.desks.items) c.view.view_is c.view.invariant.closed))

pub returns-clause-closed : goal.returns-clause-closed
returns-clause-closed c =
    sees_in c.args.view.now c.view.inside.table.now.sources (desks_of c.view.inside.desks.items) c.view.view_is c.view.invariant.closed

pub returns-clause-labelled : goal.returns-clause-labelled
returns-clause-labelled c =
    labels_in c.args.view.now c.view.inside.table.now.sources (desks_of c.view.inside.desks.items) c.view.view_is c.view.invariant.closed
