use Rattle.std.specs.Prelude.{◌≡◌, ◌+◌, map, sum, length, All}
use mathlib.Core.List.{IsPrefix}
use Rattle.history.specs.Callers.{Matches}
use Rattle.book.proofs.book.merged.Given as goal

abbrev pub invariant-loop-pass : goal.invariant-loop-pass
invariant-loop-pass g l =
    (l.all.calls.parts + length l.passes.items ≡ length l.fn.passes.items)
    × (l.all.calls.amount + sum (map (λ p. p.caller.calls) l.passes.items) ≡ sum (map (λ p. p.caller.calls) l.fn.passes.items)) × (l.log ≡ l.fn.log)
    × (All (λ p. Matches l.fn.log.rows l.fn.log.stopped p.caller) l.passes.items → All (λ p. Matches l.fn.log.rows l.fn.log.stopped p.caller) l.fn.passes.items)
    × (All (λ p. IsPrefix p.seen l.fn.rows.seen.log) l.passes.items → All (λ p. IsPrefix p.seen l.fn.rows.seen.log) l.fn.passes.items)
    × (l.all.stops.parts + length l.passes.items ≡ length l.fn.passes.items)
    × (l.all.stops.amount + sum (map (λ p. p.stops) l.passes.items) ≡ sum (map (λ p. p.stops) l.fn.passes.items))

abbrev pub decreases-loop-pass : goal.decreases-loop-pass
decreases-loop-pass g l = goal.left-loop-pass g l
