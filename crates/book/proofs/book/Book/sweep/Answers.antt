use Rattle.std.proofs.Common.{false, true≢false, List, map, sym, ap, ◌∙◌, subst}
use Rattle.std.specs.Arc.{arc_value}
use Rattle.schedule.specs.declared.state.Core.{Core}
use Rattle.history.specs.declared.row.Row.{Row}
use Rattle.book.specs.Keeping.{Kept}
use Rattle.publishing.specs.Publishing.{Published, IsFollowing}
use Rattle.book.proofs.KeepingLemmas.{may_follow}
use Rattle.book.proofs.SweepingLemmas.{kept_swept}
use Rattle.book.proofs.book.Book.sweep.Goals as goal

pub change-requires-clause-follows : goal.change-requires-clause-follows
change-requires-clause-follows g c =
    let old = c.self.inside in
    let rows : List Row = map arc_value old.history.items in
    let going : Kept g.J.FrontId.setup old.cores false rows = rw c.if-self.false at c.self.invariant.0 in
    let kept : Kept g.J.FrontId.setup c.sweep.new.self false rows =
    kept_swept g.J.FrontId.setup old.cores c.sweep.new.self false rows going c.sweep.ensures.setup c.sweep.ensures.world c.sweep.ensures.hashed in
    subst (λ (x : Core × List Row). IsFollowing g.J.FrontId.setup x.0 x.1)
    (λ i. (sym c.owner.ensures i, sym (ap (λ (p : Published). p.rows) c.settle.ensures.same ∙ c.self.invariant.6) i))
    (may_follow g.J.FrontId.setup c.sweep.new.self rows kept c.isolation.ensures c.timed_isolation.ensures c.closures_are_good.ensures)

pub invariant_of-self-then-not-change : goal.invariant_of-self-then-not-change
invariant_of-self-then-not-change g c =
    let old = c.self.inside in (
      kept_swept g.J.FrontId.setup old.cores c.sweep.new.self old.stopped (map arc_value old.history.items) c.self.invariant.0
          c.sweep.ensures.setup c.sweep.ensures.world c.sweep.ensures.hashed,
      c.self.invariant.1,
      c.self.invariant.2,
      c.self.invariant.3,
      c.self.invariant.4,
      c.self.invariant.5,
      ap (λ (p : Published). p.rows) c.if-not-change.ensures ∙ (ap (λ (p : Published). p.rows) c.settle.ensures.same ∙ c.self.invariant.6),
      λ going whole. absurd (true≢false (sym whole ∙ ap (λ (p : Published). p.whole) c.if-not-change.ensures)),
      c.self.invariant.8,
      c.self.invariant.9,
      c.self.invariant.10,
    )

pub invariant_of-self-2 : goal.invariant_of-self-2
invariant_of-self-2 g c =
    let old = c.self.inside in (
      kept_swept g.J.FrontId.setup old.cores c.sweep.new.self old.stopped (map arc_value old.history.items) c.self.invariant.0
          c.sweep.ensures.setup c.sweep.ensures.world c.sweep.ensures.hashed,
      c.self.invariant.1,
      c.self.invariant.2,
      c.self.invariant.3,
      c.self.invariant.4,
      c.self.invariant.5,
      ap (λ (p : Published). p.rows) c.if-not-change.ensures ∙ (ap (λ (p : Published). p.rows) c.settle.ensures.same ∙ c.self.invariant.6),
      λ going whole. ap (λ (p : Published). p.core) c.if-not-change.ensures ∙ c.owner.ensures,
      c.self.invariant.8,
      c.self.invariant.9,
      c.self.invariant.10,
    )
