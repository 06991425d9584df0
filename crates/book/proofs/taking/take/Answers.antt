use Rattle.std.proofs.Common.{◌≡◌, false, List, [], ◌∷◌, ◌++◌, sym, ap, ◌∙◌, subst}
use Rattle.std.specs.Arc.{arc_value}
use Rattle.schedule.specs.declared.state.Core.{Core}
use Rattle.history.specs.declared.row.Row.{Row}
use Rattle.history.specs.Histories.{row, unrecorded}
use Rattle.cores.specs.Turns.{Steps}
use Rattle.publishing.specs.Publishing.{Published, IsFollowing}
use Rattle.book.proofs.KeepingLemmas.{goes_on, may_follow}
use Rattle.book.proofs.taking.take.Goals as goal

-- what is published next has taken the events of its rows
pub put-requires-clause-follows : goal.put-requires-clause-follows
put-requires-clause-follows g c =
    let old : Core = c.args.cores.now in
    let new : Core = c.take.new.self in
    let done : Row = c.deref.result.now in
    let last : done ≡ row (arc_value c.args.asked.draft).pass c.args.asked.event c.in-Some.reply = c.deref.ensures ∙ (rw c.in-Some.is at c.in_ok-reply.ensures.row) in
    let some : unrecorded done.reply ≡ false = subst (λ (x : Row). unrecorded x.reply ≡ false) (sym last) (rw c.in-Some.is at c.in_ok-reply.ensures.some) in
    let steps : Steps old done.event done.reply new = subst (λ (x : Row). Steps old x.event x.reply new) (sym last) (rw c.in-Some.is at c.in_ok-reply.ensures.step) in
    subst (λ (x : Core × List Row). IsFollowing g.J.FrontId.setup x.0 (x.1 ++ done ∷ []))
    (λ i. (sym c.owner.ensures i, sym (ap (λ (p : Published). p.rows) c.settle.ensures.same) i))
    (may_follow g.J.FrontId.setup new (c.args.publisher.now.rows ++ done ∷ [])
    (goes_on g.J.FrontId.setup old new c.args.publisher.now.rows done c.requires.kept some steps) c.isolation.ensures c.timed_isolation.ensures c.closures_are_good.ensures)
