use Rattle.std.proofs.Common.{Result, sym, subst, ap, ◌∙◌}
use Rattle.model.specs.declared.refusal.Refusal.{Refusal}
use Rattle.model.specs.declared.refusal.Refusal.TheVariants.{UnknownUser}
use Rattle.trust.proofs.PlaceLemmas.{name_found}
use Rattle.trust.specs.declared.user.User.{User}
use Rattle.events.specs.declared.event.Request.{Request}
use Rattle.events.specs.declared.reply.Reply.{Reply}
use Rattle.events.specs.Terms.{request_of, event_of}
use Rattle.handlers.specs.Handling.{IsHandled}
use Rattle.handlers.specs.States.{parts_of}
use Rattle.handlers.proofs.HandlingLemmas.{stranger}
use Rattle.schedule.proofs.StepLemmas.{has_served, has_refused}
use Rattle.schedule.proofs.state.Core.step_ready_with_copy.Goals.{After-handle-handled}
use Rattle.schedule.proofs.state.Core.step_ready_with_copy.Goals as goal

-- the event of a stranger
pub returns-in_default : goal.returns-in_default
returns-in_default c =
    let old = c.args.self.now in
    rw c.refused.ensures (has_refused c.one_tree_at_a_path.ensures c.never_fails.ensures old old (event_of c.args.event) UnknownUser c.sound.ensures
    (stranger (parts_of old.state) (event_of c.args.event) old.state.run.sound old.state.run.goals_sound old.state.run.within (sym c.in_default.ensures)))

pub handle-handled-requires-clause-named : goal.handle-handled-requires-clause-named
handle-handled-requires-clause-named c =
    ap (λ (p : User × Request). p.0) c.into_parts-actor.ensures
    ∙ sym (name_found c.args.self.now.state.users c.args.event.actor c.in-Some.place (sym c.in-Some.ensures)).1

-- that of a user of the run
handled : (c : After-handle-handled)
    → IsHandled (parts_of c.args.self.now.state) (event_of c.args.event) c.handle-handled.result (parts_of c.handle-handled.new.state)
handled c =
    let old = c.args.self.now.state in
    subst (λ (p : User × Request). IsHandled (parts_of old) (record { actor = c.args.event.actor; request = request_of p.1 }) c.handle-handled.result
    (parts_of c.handle-handled.new.state))
    c.into_parts-actor.ensures (c.handle-handled.ensures c.args.event.actor (sym c.in-Some.ensures))

pub returns-in-Ok : goal.returns-in-Ok
returns-in-Ok c =
    let old = c.args.self.now in
    has_served old _ (event_of c.args.event) c.in-Ok.reply c.sound.ensures
    (subst (λ (r : Result Reply Refusal). IsHandled (parts_of old.state) (event_of c.args.event) r (parts_of c.handle-handled.new.state)) c.in-Ok.is
    (handled ((goal.at.returns-in-Ok c).After-handle-handled)))

pub returns-in-Err : goal.returns-in-Err
returns-in-Err c =
    let old = c.args.self.now in
    rw c.refused-in-Err.ensures (has_refused c.one_tree_at_a_path.ensures c.never_fails.ensures old _ (event_of c.args.event) c.in-Err.refusal c.sound.ensures
    (subst (λ (r : Result Reply Refusal). IsHandled (parts_of old.state) (event_of c.args.event) r (parts_of c.handle-handled.new.state)) c.in-Err.is
    (handled ((goal.at.returns-in-Err c).After-handle-handled))))
