use Rattle.std.proofs.lemmas.Result.{err_from_is_err_and}
use Rattle.trust.specs.Trusting.{trusts}
use Rattle.handlers.specs.Serving.{IsPlanned}
use Rattle.handlers.proofs.ClosureLemmas.{served_at, unplanned_at, closure_if_served}
use Rattle.handlers.proofs.PlannedLemmas.{of_him}
use Rattle.handlers.proofs.given.entries_for.Goals as goal

pub returns-in_err-planned-clause-served : goal.returns-in_err-planned-clause-served
returns-in_err-planned-clause-served c =
    let s = c.args.state.now in
    let p = err_from_is_err_and c.from_residual.result c.from_residual.ensures.1 in
    rw (p.1, p.2) (unplanned_at (trusts s.trust) s.table.sources s.desks.items c.args.place c.args.class.now c.in_err-planned.field-0.0
    c.in_err-planned.ensures.planned)

pub returns-clause-served : goal.returns-clause-served
returns-clause-served c =
    let s = c.args.state.now in
    served_at (trusts s.trust) s.table.sources s.desks.items c.args.place c.args.class.now c.in_ok-planned.planned c.served_closure_with.result
    c.in_ok-planned.ensures.planned c.served_closure_with.ensures.served c.served_closure_with.ensures.sound

pub returns-clause-closure : goal.returns-clause-closure
returns-clause-closure c =
    closure_if_served c.in_ok-planned.planned c.served_closure_with.result c.in_ok-planned.ensures.closures c.served_closure_with.ensures.served

pub returns-clause-at_hand : goal.returns-clause-at_hand
returns-clause-at_hand c = λ has.
    let p = c.in_ok-planned.planned in
    c.served_closure_with.ensures.at_hand (has p
    (of_him c.args.state.now c.args.place (λ setup w u. IsPlanned setup w u c.args.class.now p) c.requires c.in_ok-planned.ensures.planned))
