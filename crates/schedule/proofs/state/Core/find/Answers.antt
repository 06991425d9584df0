use Rattle.std.proofs.Common.{sym, ◌∙◌, subst, Result}
use Rattle.model.specs.declared.refusal.Refusal.{Refusal}
use Rattle.events.specs.declared.reply.Reply.{Reply}
use Rattle.handlers.specs.Handling.{IsHandled}
use Rattle.events.specs.Terms.{event_of}
use Rattle.schedule.specs.Queries.{event_for}
use Rattle.schedule.specs.Standing.{parts_of}
use Rattle.handlers.proofs.HandlingLemmas.{stranger}
use Rattle.trust.proofs.FirstPlaceLemmas.{place_below}
use Rattle.schedule.proofs.state.Core.find.Goals as goal

pub find_at-requires : goal.find_at-requires
find_at-requires c =
    place_below c.args.self.now.state.users c.args.query.now.actor c.in-Some.place (sym c.place_of.ensures ∙ c.in-Some.is)

pub returns-in_default : goal.returns-in_default
returns-in_default c given gives =
    let core = c.args.self.now in
    subst (λ (o : Result Reply Refusal). IsHandled (parts_of core) (event_of (event_for c.args.query.now)) o (parts_of core)) (sym gives)
    (stranger (parts_of core) (event_of (event_for c.args.query.now)) core.state.run.sound core.state.run.goals_sound core.state.run.within (sym c.in_default.ensures))

pub returns : goal.returns
returns c given gives = c.find_at.ensures given gives c.args.query.now.actor (sym c.place_of.ensures ∙ c.in-Some.is)
