use Rattle.std.proofs.Common.{◌≡◌, List, ap, subst, sym}
use Rattle.std.specs.Prelude.{IfOk}
use Rattle.model.specs.Archives.{Tree}
use Rattle.realise.specs.Holdings.{Holdings}
use Rattle.trust.specs.Trusting.{trusts}
use Rattle.events.specs.Terms.{request_of}
use Rattle.outputs.specs.Kept.{HasNeeded}
use Rattle.outputs.specs.declared.settlement.Settlement.{Settlement}
use Rattle.outputs.specs.declared.settlements.Settlements.{Settlements}
use Rattle.handlers.specs.Offering.{HasOffered}
use Rattle.handlers.proofs.StateLemmas.{has_desk}
use Rattle.endings.proofs.MadeLemmas.{at_place}
use Rattle.handlers.specs.Viewing.{desk_at}
use Rattle.schedule.specs.Standing.{world_of}
use Rattle.schedule.specs.Preparing.{HasInput, HasOutcome}
use Rattle.schedule.proofs.PreparingLemmas.{offered_by, ended_by}
use Rattle.schedule.proofs.state.Core.input_for.Goals as goal

pub returns-in-Offer-clause-needed : goal.returns-in-Offer-clause-needed
unfolding world_of
returns-in-Offer-clause-needed c user found =
    let core = c.args.self.now in
    let place = c.args.place in
    let path = c.in-Offer.path in
    let result = c.input_for_offer.result in
    let desk : c.index.result.now ≡ desk_at core.state.desks.items place =
    at_place core.state.desks.items place c.index.result.now (has_desk core.state place c.requires.of_run) c.index.ensures in
    let his = subst (λ (d : Holdings). IfOk result (λ input. (t : Tree) (settled : List Settlement) → HasNeeded settled input t → HasOffered d path t settled))
    desk c.input_for_offer.ensures.needed in
    subst (λ r. IfOk result (λ input. (made : Settlements) → HasInput r input made → HasOutcome (world_of core user) user r made)) (ap request_of (sym c.in-Offer.is))
    (offered_by core.state.users core.state.limits.charge (trusts core.state.trust) core.state.jobs.goals core.state.table.sources core.state.desks.items user place
    core.state.run.listed found core.state.run.paired core.state.run.within result path _ his)

pub returns-in-Finish-clause-needed : goal.returns-in-Finish-clause-needed
unfolding world_of
returns-in-Finish-clause-needed c user found =
    let core = c.args.self.now in
    let place = c.args.place in
    let n = c.in-Finish.number in
    let result = c.input_for_finish.result in
    subst (λ r. IfOk result (λ input. (made : Settlements) → HasInput r input made → HasOutcome (world_of core user) user r made)) (ap request_of (sym c.in-Finish.is))
    (ended_by core.state.users core.state.limits.charge (trusts core.state.trust) core.state.jobs.goals core.state.table.sources core.state.desks.items user place
    core.state.run.listed found core.state.run.paired core.state.run.within result n _ c.input_for_finish.ensures.needed)
