use Rattle.std.proofs.Common.{◌≡◌, ◌≤◌, ◌∙◌, sym, ap, drop, length, List, ℕ, Option, Some, None, rules, arith}
use Rattle.std.specs.Prelude.{option_copied, slice_index_or}
use Rattle.std.proofs.Math.ListN.{drop_of_length-le}
use Rattle.model.specs.Worlds.{Goal}
use Rattle.model.specs.Goals.{goal_at}
use Rattle.model.specs.Orders.{least_from}
use Rattle.records.specs.Recorded.{Recorded}
use Rattle.jobs.specs.Owned.{goals_at}
use Rattle.jobs.specs.Numbers.{finished}
use Rattle.handlers.specs.Viewing.{desk_at}
use Rattle.goals.specs.Reusing.{path_before, found_if, found_among, found_on}
use Rattle.goals.proofs.StateLemmas.{own_desk}
use Rattle.goals.proofs.ReuseLemmas.{number_next, nothing_left, nothing_found}
use Rattle.goals.proofs.EnoughLemmas.{first_enough}
use Rattle.goals.proofs.reusing.least_for_user.Goals as goal
use Rattle.goals.proofs.reusing.least_for_user.Goals.{in-Some, in_default}

pub loop-number-preserved : goal.loop-number-preserved
loop-number-preserved c =
    let goals : List Goal = goals_at c.args.place c.args.state.now.jobs in
    let found : Option Goal → List Recorded = found_if c.args.resolved.now c.args.labels.now c.index-desk.result.now in
    let ns : List ℕ = c.finished_under-number-items.result.now in
    let n : ℕ = slice_index_or ns c.loop-number.number-index 0 in
    elim c.match-get.branch [
      | in-Some w ↦
          let there : goal_at n goals ≡ Some w.in-Some.goal.now = sym c.get.ensures ∙ ap option_copied w.in-Some.is in
          number_next (λ m. found (goal_at m goals)) (option_copied c.loop-number.least) (option_copied c.match-get.least) ns c.loop-number.number-index
          c.loop-number-test.true
          (ap option_copied w.least-is ∙ w.least_for_goal-least.ensures
          ∙ ap (λ o. least_from path_before (option_copied c.loop-number.least) (found o)) (sym there))
          ∙ c.loop-number.invariant
      | in_default w ↦
          let none : goal_at n goals ≡ None = search rules in
          number_next (λ m. found (goal_at m goals)) (option_copied c.loop-number.least) (option_copied c.match-get.least) ns c.loop-number.number-index
          c.loop-number-test.true
          (ap option_copied w.least-is ∙ nothing_found (option_copied c.loop-number.least) (found (goal_at n goals)) (ap found none))
          ∙ c.loop-number.invariant
    ]

pub returns : goal.returns
returns c =
    let s = c.args.state.now in
    let goals : List Goal = goals_at c.args.place s.jobs in
    let ns : List ℕ = c.finished_under-number-items.result.now in
    let past : length ns ≤ c.loop-number.number-index = (let test = c.loop-number-test.false in omega (arith, test)) in
    let all : ns ≡ finished c.args.resolved.now.scratch goals =
    c.finished_under-number-items.ensures ∙ ap (λ path. finished path goals) c.scratch.ensures in
    let at : c.index-desk.result.now ≡ desk_at s.desks.items c.args.place =
    c.index-desk.ensures ∙ own_desk s c.args.place c.requires c.index-desk.result.now in
    nothing_left (option_copied c.loop-number.least)
    (found_among c.args.resolved.now c.args.labels.now c.index-desk.result.now goals (drop c.loop-number.number-index ns))
    (ap (found_among c.args.resolved.now c.args.labels.now c.index-desk.result.now goals) (drop_of_length-le ns past))
    ∙ c.loop-number.invariant
    ∙ ap (λ ms. least_from path_before (option_copied c.args.best) (found_among c.args.resolved.now c.args.labels.now c.index-desk.result.now goals ms)) all
    ∙ first_enough c.args.resolved.now c.args.labels.now c.index-desk.result.now goals (option_copied c.args.best)
    ∙ ap (λ d. least_from path_before (option_copied c.args.best) (found_on c.args.resolved.now c.args.labels.now d goals)) at
