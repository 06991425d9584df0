use Rattle.std.proofs.Common.{◌≡◌, ◌==◌, false, refl, sym, ◌∙◌, subst}
use Rattle.std.proofs.lemmas.List.Folds.{list_all-map, list_all_at}
use Rattle.std.specs.Arc.{arc_value}
use Rattle.std.specs.List.{list_any}
use Rattle.history.specs.declared.row.Row.{Row}
use Rattle.running.specs.Runs.{is_accounted}
use Rattle.running.proofs.runs.are_accounted.Goals as goal

pub returns-then-not-contains-2 : goal.returns-then-not-contains-2
returns-then-not-contains-2 c =
    let sessions = c.args.sessions.now in
    let workers = c.args.workers.now in
    let rows = c.args.rows.now in
    let shared = c.shared-item.result in
    let own : list_any (λ n. n == c.deref-row.result.now.pass) sessions ≡ false = sym c.contains.ensures.value ∙ c.if-not-contains.true in
    let others : list_any (λ n. n == c.deref-row.result.now.pass) workers ≡ false =
    sym c.contains-then-not-contains.ensures.value ∙ c.if-not-contains-2.true in
    let none : is_accounted sessions workers c.deref-row.result.now ≡ false = rw (own, others) refl in
    let here : is_accounted sessions workers (arc_value shared) ≡ false =
    subst (λ (r : Row). is_accounted sessions workers r ≡ false) c.deref-row.ensures none in
    sym (
    list_all-map (is_accounted sessions workers) arc_value rows
    ∙ list_all_at (λ x. is_accounted sessions workers (arc_value x)) rows c.loop-shared.shared-index shared c.loop-shared-test.true
    (subst (λ x. is_accounted sessions workers (arc_value x) ≡ false) c.shared-item.is here)
    )
