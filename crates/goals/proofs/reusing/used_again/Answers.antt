use Rattle.std.proofs.Common.{◌≡◌, ◌∙◌, refl, sym, ap, subst, Some, None, rules}
use Rattle.std.specs.Prelude.{option_copied}
use Rattle.model.specs.Goals.{goal_at}
use Rattle.model.specs.Endings.{labels_from}
use Rattle.trust.specs.Trusting.{trusts}
use Rattle.jobs.specs.Owned.{goals_at}
use Rattle.realise.specs.Holdings.{Holdings}
use Rattle.handlers.specs.Viewing.{desk_at}
use Rattle.handlers.proofs.StateLemmas.{complete_desks}
use Rattle.goals.specs.Reusing.{class_for, IsFinishedBuild}
use Rattle.goals.proofs.ReuseLemmas.{held_stored, unknown_class, nothing_built, built_used}
use Rattle.goals.proofs.reusing.used_again.Goals as goal

pub returns-in_default-clause-used : goal.returns-in_default-clause-used
returns-in_default-clause-used c =
    let s = c.args.state.now in
    let desk : Holdings = desk_at s.desks.items c.args.planned.place in
    let none : class_for desk.known (goal_at c.args.planned.number (goals_at c.args.planned.place s.jobs)) ≡ None = search rules in
    unknown_class (trusts s.trust) s.jobs.goals s.table.sources s.desks.items c.args.planned.place c.args.planned.number c.args.planned.resolved.now
    desk refl none

pub realised-requires : goal.realised-requires
realised-requires c =
    let s = c.args.state.now in
    held_stored s.table.sources c.deref.result.now s.desks.items c.in-Some-finished_build.found.now (complete_desks s).stored
    (c.finished_build.ensures.held c.in-Some-finished_build.found.now (ap option_copied c.in-Some-finished_build.is))

pub returns-in-Some-finished_build-clause-used : goal.returns-in-Some-finished_build-clause-used
returns-in-Some-finished_build-clause-used c =
    let s = c.args.state.now in
    let desk : Holdings = desk_at s.desks.items c.args.planned.place in
    let found : option_copied c.finished_build.result ≡ Some c.in-Some-finished_build.found.now = ap option_copied c.in-Some-finished_build.is in
    let own : class_for desk.known (goal_at c.args.planned.number (goals_at c.args.planned.place s.jobs)) ≡ Some c.in-Some.class.now =
    sym c.class_of.ensures ∙ ap option_copied c.in-Some.is in
    let labels : c.deref.result.now ≡ labels_from c.args.planned.resolved.now = c.deref.ensures.value ∙ c.in_ok-labels.ensures.labels in
    built_used (trusts s.trust) s.jobs.goals s.table.sources s.desks.items c.args.planned.place c.args.planned.number c.args.planned.resolved.now
    desk refl c.in-Some.class.now c.in-Some-finished_build.found.now c.in_ok-realised-in-Some-finished_build.field-0
    c.deref.result.now own
    (subst (IsFinishedBuild (trusts s.trust) s.jobs.goals s.desks.items c.args.planned.place c.args.planned.resolved.now) found c.finished_build.ensures.found)
    (c.finished_build.ensures.held c.in-Some-finished_build.found.now found) labels
    c.in_ok-realised-in-Some-finished_build.ensures.0 c.in_ok-realised-in-Some-finished_build.ensures.1

pub returns-clause-used : goal.returns-clause-used
returns-clause-used c =
    let s = c.args.state.now in
    let desk : Holdings = desk_at s.desks.items c.args.planned.place in
    nothing_built (trusts s.trust) s.jobs.goals s.table.sources s.desks.items c.args.planned.place c.args.planned.number c.args.planned.resolved.now
    desk refl
    (subst (IsFinishedBuild (trusts s.trust) s.jobs.goals s.desks.items c.args.planned.place c.args.planned.resolved.now) (ap option_copied c.in-None.is)
    c.finished_build.ensures.found)
