use Rattle.std.proofs.Common.{◌≡◌, ℕ, ◌+◌, List, [], ◌∷◌, ◌++◌, map, sum, ap, ◌∙◌, rules, arith}
use Rattle.std.proofs.lemmas.List.{map_push}
use Rattle.std.proofs.lemmas.List.Sums.{sum_by-append, sum_by-cons}
use Rattle.std.proofs.lemmas.List.Elements.{All-push}
use mathlib.Core.List.{IsPrefix}
use Rattle.history.specs.Callers.{Caller, Matches}
use Rattle.history.specs.Callers.{PassKnowledge}
use Rattle.book.proofs.book.merged.Goals as goal

-- the sum of a list with one number more
sum_push : (ns : List ℕ) (n : ℕ) → sum (ns ++ n ∷ []) ≡ sum ns + n
sum_push ns n = let one = sum_by-cons (λ x. x) n [] in sum_by-append (λ x. x) ns (n ∷ []) ∙ omega (arith, one)

pub loop-pass-preserved : goal.loop-pass-preserved
loop-pass-preserved g c =
    let i = c.loop-pass.invariant in
    let pass = c.in-Some.pass in
    let left = c.pop.new.self.items in
    let items = ap (λ (ps : List PassKnowledge). sum (map (λ p. p.caller.calls) ps)) c.in-Some.ensures.items ∙ (ap sum (map_push (λ (p : PassKnowledge). p.caller.calls) left pass) ∙ sum_push (map (λ (p : PassKnowledge). p.caller.calls) left) pass.caller.calls) in
    let stops = ap (λ (ps : List PassKnowledge). sum (map (λ p. p.stops) ps)) c.in-Some.ensures.items ∙ (ap sum (map_push (λ (p : PassKnowledge). p.stops) left pass) ∙ sum_push (map (λ (p : PassKnowledge). p.stops) left) pass.stops) in (
      omega (arith, i.0, c.merge.ensures.parts, c.into_calls.ensures.0, c.in-Some.ensures.len),
      omega (arith, i.1, c.merge.ensures.amount, c.into_calls.ensures.1, items, c.compare.ensures.calls, ap (λ (p : Caller). p.calls) c.into_account-caller.ensures.caller),
      c.compare.ensures.same ∙ i.2,
      λ rest. i.3 (rw c.in-Some.ensures.items (All-push (λ (p : PassKnowledge). Matches c.args.log.now.rows c.args.log.now.stopped p.caller) left pass rest (rw (i.2, c.into_account-caller.ensures.caller) at c.compare.ensures.matches))),
      λ rest. i.4 (rw c.in-Some.ensures.items (All-push (λ (p : PassKnowledge). IsPrefix p.seen c.args.rows.now.seen.log) left pass rest c.into_account-caller.ensures.seen)),
      omega (arith, i.5, c.merge-in-Some.ensures.parts, c.into_account-caller.ensures.stops.0, c.in-Some.ensures.len),
      omega (arith, i.6, c.merge-in-Some.ensures.amount, c.into_account-caller.ensures.stops.1, stops),
    )

pub returns-clause-matches : goal.returns-clause-matches
returns-clause-matches g c = c.loop-pass.invariant.3 (search rules)

pub returns-clause-seen : goal.returns-clause-seen
returns-clause-seen g c = c.loop-pass.invariant.4 (search rules)
