use Rattle.std.proofs.Common.{sym, ap, ◌∙◌, subst}
use Rattle.std.specs.Arc.{arc_value}
use Rattle.events.specs.declared.event.Event.{Event}
use Rattle.events.specs.declared.reply.Reply.{Reply}
use Rattle.events.specs.Terms.{event_of, reply_of}
use Rattle.history.specs.declared.row.Row.{Row}
use Rattle.schedule.specs.declared.state.Core.{Core}
use Rattle.schedule.specs.Standing.{IsUnchanged}
use Rattle.schedule.specs.Stepping.{HasStepped}
use Rattle.cores.specs.Turns.{Behind}
use Rattle.cores.proofs.TurnLemmas.{behind_after, behind_kept, behind_still, taken_over, unchanged_back}
use Rattle.cores.proofs.cores.Cores.take.Goals as goal

pub invariant_of-self : goal.invariant_of-self
invariant_of-self c =
    let inside = c.self.inside in
    behind_kept inside.lag c.bring_up.new.lag (arc_value inside.other) (arc_value c.bring_up.new.other) (arc_value inside.shown) c.self.invariant
    c.in_err-bring_up.ensures.kept c.in_err-bring_up.ensures.same

pub returns-in_default-complete-clause-lost : goal.returns-in_default-complete-clause-lost
returns-in_default-complete-clause-lost c =
    let shown : Core = arc_value c.self.inside.shown in
    let same = subst (λ (core : Core). IsUnchanged shown core) (sym c.in-Some.ensures.value) (c.in_ok-bring_up.ensures.caught shown c.self.invariant) in
    record {
      reply = c.into_both-reply.result.0;
      step = taken_over shown c.in-Some.core.now c.step_ready_with_copy.new.self _ _ _ _ _ same c.step_ready_with_copy.ensures.step c.self.view_is
          (sym (ap arc_value c.swap.ensures.x_after)) (sym (ap reply_of c.into_both-reply.ensures.reply));
    }

pub returns-clause-step : goal.returns-clause-step
returns-clause-step c =
    let shown : Core = arc_value c.self.inside.shown in
    let same = subst (λ (core : Core). IsUnchanged shown core) (sym c.in-Some.ensures.value) (c.in_ok-bring_up.ensures.caught shown c.self.invariant) in
    taken_over shown c.in-Some.core.now c.step_ready_with_copy.new.self _ _ _ _ _ same c.step_ready_with_copy.ensures.step c.self.view_is
    (sym (ap arc_value c.swap.ensures.x_after)) (sym (ap reply_of c.into_both-reply.ensures.reply))

pub invariant_of-self-2 : goal.invariant_of-self-2
invariant_of-self-2 c =
    let shown : Core = arc_value c.self.inside.shown in
    let before : Core = c.in-Some.core.now in
    let new : Core = c.step_ready_with_copy.new.self in
    let lag = c.lag_after.result in
    let same = subst (λ (core : Core). IsUnchanged shown core) (sym c.in-Some.ensures.value) (c.in_ok-bring_up.ensures.caught shown c.self.invariant) in
    let is = c.in-Some-complete.ensures.row.0 ∙ c.in-Some-complete.ensures.row.1 in
    let event = ap (λ (r : Row). r.event) is ∙ c.requires in
    let reply = ap (λ (r : Row). r.reply) is ∙ c.into_both-reply.ensures.copy in
    let stepped = subst (λ (x : Event × Reply). HasStepped before (event_of x.0) (reply_of x.1) new) (λ i. (sym event i, sym reply i))
    c.step_ready_with_copy.ensures in
    let behind = behind_after lag c.in-Some-complete.row before new c.queries_change_nothing.ensures stepped c.lag_after.ensures in
    subst (λ (x : Core × Core). Behind lag x.0 x.1) (λ i. (sym (ap arc_value c.swap.ensures.y_after) i, sym (ap arc_value c.swap.ensures.x_after) i))
    (behind_still lag before shown new behind (unchanged_back shown before same))
