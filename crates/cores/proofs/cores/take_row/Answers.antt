use Rattle.std.proofs.Common.{sym, ap, ◌∙◌, subst}
use Rattle.events.specs.declared.event.Event.{Event}
use Rattle.model.specs.Replies.{is_refused}
use Rattle.events.specs.Terms.{event_of, reply_of}
use Rattle.schedule.specs.Stepping.{HasStepped}
use Rattle.history.specs.Histories.{event_in}
use Rattle.cores.proofs.TurnLemmas.{has_taken}
use Rattle.cores.proofs.cores.take_row.Goals as goal

pub returns-clause-taken : goal.returns-clause-taken
returns-clause-taken c =
    has_taken c.args.core.now c.step_ready_with_copy.new.self (event_in c.args.row.now) (reply_of c.step_ready_with_copy.result)
    (subst (λ (e : Event). HasStepped c.args.core.now (event_of e) (reply_of c.step_ready_with_copy.result) c.step_ready_with_copy.new.self)
    c.in_ok-event.ensures c.step_ready_with_copy.ensures)
    (ap (λ r. is_refused (reply_of r)) (sym c.into_reply-reply.ensures) ∙ (sym c.is_refused.ensures ∙ c.if-is_refused.false))
