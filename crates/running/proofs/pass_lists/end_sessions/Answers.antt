use Rattle.std.proofs.Common.{sym, ◌∙◌, ap, List, [], ◌∷◌, ◌++◌, ℕ}
use Rattle.std.specs.Prelude.{map}
use Rattle.std.proofs.lemmas.List.{append_assoc, map-append}
use Rattle.history.specs.Callers.{PassKnowledge}
use Rattle.teams.specs.declared.sessions.SessionOutput.{SessionOutput}
use Rattle.running.specs.ServedSessions.{passes_left, all_passes, numbers_in, all_numbers}
use Rattle.running.proofs.ServedSessionLemmas.{all_push, numbers_push}
use Rattle.running.proofs.pass_lists.end_sessions.Goals as goal

pub loop-left-preserved : goal.loop-left-preserved
loop-left-preserved g c =
    let ys = c.loop-left.yielded in
    let left = c.in-Some.left in
    let back = c.args.back.now in
    let own : List ℕ = numbers_in left.workers.items in (
      c.in_ok-end_session.ensures.passes ∙ ap (λ (ps : List PassKnowledge). ps ++ passes_left left) c.loop-left.invariant.0
          ∙ append_assoc back.passes.items (all_passes ys) (passes_left left)
          ∙ ap (λ (ps : List PassKnowledge). back.passes.items ++ ps) (sym (all_push ys left)),
      c.in_ok-end_session.ensures.numbers ∙ ap (λ (ns : List ℕ). ns ++ own) c.loop-left.invariant.1
          ∙ append_assoc back.workers.items (all_numbers ys) own ∙ ap (λ (ns : List ℕ). back.workers.items ++ ns) (sym (numbers_push ys left)),
      c.in_ok-end_session.ensures.outputs ∙ ap (λ (os : List SessionOutput). os ++ left.output ∷ []) c.loop-left.invariant.2
          ∙ append_assoc back.outputs.items (map (λ l. l.output) ys) (left.output ∷ [])
          ∙ ap (λ (os : List SessionOutput). back.outputs.items ++ os) (sym (map-append (λ l. l.output) ys (left ∷ []))),
    )
