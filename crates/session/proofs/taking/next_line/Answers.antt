use Rattle.std.proofs.Common.{◌≡◌, ◌<◌, ◌∙◌, refl, sym, [], length}
use Rattle.session.proofs.RowLemmas.{consumes-none}
use Rattle.session.proofs.TakingLemmas.{begun-more, line-whole, line-last, line-none}
use Rattle.session.proofs.taking.next_line.Goals as goal

pub loop-init : goal.loop-init
loop-init g c = record { part = []; within = tt; holds = rw c.new-held.ensures.items refl; taken = consumes-none _ }

pub loop-preserved : goal.loop-preserved
loop-preserved g c = begun-more _ _ _ _ _ c.loop.invariant (rw c.in-More.is at c.in_ok-take_shown.ensures.taken)

pub returns-in-Line-clause-line : goal.returns-in-Line-clause-line
returns-in-Line-clause-line g c = line-whole _ _ _ _ _ c.loop.invariant (rw c.in-Line.is at c.in_ok-take_shown.ensures.taken)

pub returns-in-End-clause-line : goal.returns-in-End-clause-line
returns-in-End-clause-line g c =
    let t = rw c.in-End.is at c.in_ok-take_shown.ensures.taken in
    let some : 0 < length c.as_slice.result.now = rw c.if-is_begun.true at c.is_begun.ensures in
    line-last _ _ _ _ _ c.loop.invariant t.0 t.1 (rw c.as_slice.ensures.value at some)

pub returns-in-End-2-clause-line : goal.returns-in-End-2-clause-line
returns-in-End-2-clause-line g c =
    let t = rw c.in-End-2.is at c.in_ok-take_shown.ensures.taken in
    let none : c.as_slice.result.now ≡ [] = rw c.if-is_begun.false at c.is_begun.ensures in
    line-none _ _ _ _ _ c.loop.invariant t.0 t.1 (sym c.as_slice.ensures.value ∙ none)
