use Rattle.std.proofs.Common.{sym, ap, ◌∙◌, subst}
use Rattle.std.specs.Arc.{arc_value}
use Rattle.schedule.specs.declared.state.Core.{Core}
use Rattle.schedule.specs.Standing.{stored_in, HasHashed, IsUnchanged}
use Rattle.schedule.specs.Sweeping.{is_held}
use Rattle.store.specs.Stored.{kept_at}
use Rattle.cores.specs.Turns.{IsSwept}
use Rattle.cores.proofs.TurnLemmas.{behind_kept, swept_from, has_hashed}
use Rattle.cores.proofs.cores.Cores.sweep.Goals as goal

pub invariant_of-self : goal.invariant_of-self
invariant_of-self c =
    let inside = c.self.inside in
    behind_kept inside.lag c.bring_up.new.lag (arc_value inside.other) (arc_value c.bring_up.new.other) (arc_value inside.shown) c.self.invariant
    c.in_err-bring_up.ensures.kept c.in_err-bring_up.ensures.same

pub invariant_of-self-2 : goal.invariant_of-self-2
invariant_of-self-2 c =
    let shown : Core = arc_value c.self.inside.shown in
    let same = subst (λ (core : Core). IsUnchanged shown core) (sym c.in-Some.ensures.value) (c.in_ok-bring_up.ensures.caught shown c.self.invariant) in
    subst (λ (x : Core × Core). IsSwept x.0 x.1) (λ i. (sym (ap arc_value c.swap.ensures.y_after) i, sym (ap arc_value c.swap.ensures.x_after) i))
    (swept_from shown c.in-Some.core.now c.sweep.new.core same c.in_ok-sweep.ensures.swept)

pub returns-clause-swept : goal.returns-clause-swept
returns-clause-swept c =
    let shown : Core = arc_value c.self.inside.shown in
    let same = subst (λ (core : Core). IsUnchanged shown core) (sym c.in-Some.ensures.value) (c.in_ok-bring_up.ensures.caught shown c.self.invariant) in
    let swept = swept_from shown c.in-Some.core.now c.sweep.new.core same c.in_ok-sweep.ensures.swept in
    ap stored_in (ap arc_value c.swap.ensures.x_after) ∙ (swept.stored ∙ ap (λ (core : Core). kept_at (is_held core) (stored_in core)) c.self.view_is)

pub returns-clause-hashed : goal.returns-clause-hashed
returns-clause-hashed c texts hashed =
    let shown : Core = arc_value c.self.inside.shown in
    let same = subst (λ (core : Core). IsUnchanged shown core) (sym c.in-Some.ensures.value) (c.in_ok-bring_up.ensures.caught shown c.self.invariant) in
    subst (HasHashed texts) (sym (ap arc_value c.swap.ensures.x_after)) (c.sweep.ensures.hashed texts
    (has_hashed texts shown c.in-Some.core.now same (subst (HasHashed texts) (sym c.self.view_is) hashed)))
