use Rattle.std.proofs.Common.{◌≡◌, ◌-◌, sym, ◌∙◌, subst, arith, ℕ, [], ◌∷◌, ◌++◌, length}
use Rattle.std.proofs.lemmas.List.{map-id}
use Rattle.std.proofs.lemmas.Iterator.Adapters.{YieldsList-from_vec}
use Rattle.std.proofs.lemmas.Iterator.Consumers.{YieldsList-end}
use Rattle.running.specs.ServedSessions.{IsSessionFor, AreSessionsFor, passes_for, session_passes}
use Rattle.running.proofs.ServedSessionLemmas.{left_behind, left_push, sessions_push}
use Rattle.running.proofs.pass_lists.sessions_for.Goals as goal

pub loop-part-preserved : goal.loop-part-preserved
loop-part-preserved g c =
    let count : ℕ = length c.args.passes.items in
    let ys = c.loop-part.yielded in
    let taken = c.in_ok-session_for.ensures.count in
    let before = c.loop-part.invariant.2 in
    let left : length c.session_for.new.passes.items ≡ left_behind count ys - passes_for c.in-Some.part = omega (arith, taken, before) in (
      c.in_ok-session_for.ensures.left,
      subst (AreSessionsFor (session_passes count (ys ++ c.in-Some.part ∷ [])) (ys ++ c.in-Some.part ∷ [])) (sym c.in_ok-push.ensures.items)
          (sessions_push count ys c.in-Some.part c.loop-part.served_sessions.items c.in_ok-session_for.field-0 c.loop-part.invariant.1
          (subst (λ n. IsSessionFor n c.in-Some.part c.in_ok-session_for.field-0) left c.in_ok-session_for.ensures.session)),
      left ∙ sym (left_push count ys c.in-Some.part),
    )

pub returns-clause-served_sessions : goal.returns-clause-served_sessions
returns-clause-served_sessions g c =
    let given = c.into_iter-part-iterator.ensures.into_iter_gives in
    let list = YieldsList-from_vec {s = c.into_iter-part-iterator.result} c.args.parts.items given.0 (given.1 ∙ c.args.parts.ok.0) in
    let all = YieldsList-end list c.loop-part.yielded c.loop-part.part-iterator c.loop-part.yielded_by c.next.result c.next.new.self c.in-None.is c.next.ensures.steps in
    subst (λ parts. AreSessionsFor (session_passes (length c.args.passes.items) parts) parts c.loop-part.served_sessions.items) (sym (map-id c.loop-part.yielded) ∙ all.0)
    c.loop-part.invariant.1
