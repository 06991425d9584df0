use Rattle.std.proofs.Common.{◌≡◌, ◌+◌, ◌∙◌, true, false, sym, ap, subst, map, drop}
use Rattle.std.specs.Arc.{arc_value}
use Rattle.indexmap.specs.IndexMap.{get}
use Rattle.model.specs.Goals.{same_job}
use Rattle.history.specs.declared.row.Row.{Row}
use Rattle.teams.specs.Asked.{with_row, is_of_session, is_asked, are_asked, are_asked_after}
use Rattle.teams.proofs.AskedLemmas.{after_session, after_worker}
use Rattle.teams.proofs.asked.are_asked.Goals as goal
use Rattle.teams.proofs.asked.are_asked.Goals.{then-contains+in_ok-note, else-contains+in_ok-is_asked+else-not-branch}

pub loop-shared-preserved : goal.loop-shared-preserved
loop-shared-preserved c =
    let sessions = c.args.sessions.now in
    let rows = c.args.rows.now in
    let shared = c.shared-item.result in
    let given = get same_job c.loop-shared.given in
    elim c.if-contains.branch [
      | then-contains+in_ok-note w ↦
          after_session arc_value sessions rows c.loop-shared.shared-index shared given _ c.loop-shared-test.true c.shared-item.is c.loop-shared.invariant
          (get same_job c.if-contains.given)
          (subst (λ (r : Row). is_of_session sessions r ≡ true) c.deref-row.ensures (sym c.contains.ensures.value ∙ w.if-contains.true))
          (ap (get same_job) w.given-is ∙ (w.in_ok-note.ensures ∙ ap (λ (r : Row). with_row r given) c.deref-row.ensures))
      | else-contains+in_ok-is_asked+else-not-branch w ↦
          subst (λ given. are_asked_after sessions (get same_job given) (map arc_value (drop (c.loop-shared.shared-index + 1) rows)) ≡ are_asked sessions (map arc_value rows)) (sym w.given-is)
          (after_worker arc_value sessions rows c.loop-shared.shared-index shared given _ c.loop-shared-test.true c.shared-item.is c.loop-shared.invariant
          (subst (λ (r : Row). is_of_session sessions r ≡ false) c.deref-row.ensures (sym c.contains.ensures.value ∙ w.if-contains.false))
          (subst (λ (r : Row). is_asked sessions given r ≡ true) c.deref-row.ensures (sym w.in_ok-is_asked.ensures ∙ w.if-not-branch.false)))
    ]
