use Rattle.std.proofs.Common.{◌≡◌, List, ap, subst, sym}
use Rattle.std.specs.Prelude.{IfOk}
use Rattle.realise.specs.Holdings.{Holdings}
use Rattle.trust.specs.Trusting.{trusts}
use Rattle.events.specs.Terms.{request_of}
use Rattle.classes.specs.Admitting.{Made, HasMade, HasAdmission}
use Rattle.classes.specs.declared.admissions.Admissions.{Admissions}
use Rattle.handlers.proofs.StateLemmas.{has_desk}
use Rattle.endings.proofs.MadeLemmas.{at_place}
use Rattle.handlers.specs.Viewing.{desk_at}
use Rattle.schedule.specs.Standing.{world_of}
use Rattle.schedule.specs.Preparing.{HasAdmissionFor}
use Rattle.schedule.proofs.PreparingLemmas.{admitted_by}
use Rattle.schedule.proofs.state.Core.admission_for.Goals as goal

pub returns-clause-needed : goal.returns-clause-needed
unfolding world_of
returns-clause-needed c user found =
    let core = c.args.self.now in
    let place = c.args.place in
    let result = c.input_for_derivation.result in
    let desk : c.index.result.now ≡ desk_at core.state.desks.items place =
    at_place core.state.desks.items place c.index.result.now (has_desk core.state place c.requires.of_run) c.index.ensures in
    let his = subst (λ (d : Holdings). IfOk result (λ input. (all : List Made) → HasMade all input → HasAdmission d.known c.in-AddDerivation.text all))
    desk c.input_for_derivation.ensures.needed in
    subst (λ r. IfOk result (λ input. (made : Admissions) → HasMade made.admitted.items input → HasAdmissionFor (world_of core user) r made)) (ap request_of (sym c.in-AddDerivation.is))
    (admitted_by core.state.users core.state.limits.charge (trusts core.state.trust) core.state.jobs.goals core.state.table.sources core.state.desks.items user place
    core.state.run.listed found core.state.run.paired core.state.run.within result _ his)
