use Rattle.std.proofs.Common.{◌≡◌, ◌<◌, ◌∙◌, ap, sym, subst, arith, length, List, ℕ, false, None, bit_and}
use Rattle.jobs.specs.Planners.{users_at, HasPlannersOfAll}
use Rattle.jobs.proofs.PlannerLemmas.{left_out_of, of_both}
use Rattle.std.specs.Prelude.{option_copied}
use Rattle.trust.specs.Trusting.{holds}
use Rattle.model.specs.Goals.{job_before, led_by, Running}
use Rattle.model.specs.Orders.{least_from}
use Rattle.jobs.specs.Owned.{Owned, OwnedByAll}
use Rattle.jobs.specs.Joining.{jobs_with, led_at}
use Rattle.jobs.proofs.UserLemmas.{as_many, goals_read, owner_read}
use Rattle.jobs.proofs.JoinLemmas.{place_in, place_out, places_done, jobs_near}
use Rattle.jobs.proofs.users.Jobs.join.Goals as goal
use Rattle.jobs.proofs.users.Jobs.join.Goals.{then-has_place, else-has_place}

pub loop-place-preserved : goal.loop-place-preserved
loop-place-preserved c =
    let all : OwnedByAll = c.args.self.now in
    let each : List Owned = c.self.inside.all.items in
    let place : ℕ = c.loop-place.place in
    let many : length all.goals ≡ length each = as_many all each c.self.view_is in
    let end : c.len-place-end.result ≡ length each = c.len-place-end.ensures ∙ c.self.inside.all.ok.0 in
    let test = c.loop-place-test.true in
    let below : place < length all.goals = omega arith in
    elim c.if-has_place.branch [
      | then-has_place w ↦
          let goals = goals_read all each place w.index.result.now c.self.view_is below w.index.ensures in
          let owner = owner_read all each place w.index.result.now c.self.view_is below w.index.ensures in
          let led : led_at all place ≡ led_by w.index.result.now.owner 1 w.index.result.now.goals = λ i. led_by (owner i) 1 (goals i) in
          place_in all c.args.resolved.now (holds (bit_and c.args.set c.at.result)) place (length all.goals) (option_copied c.loop-place.least)
          (option_copied c.if-has_place.least) _ below
          (sym w.if-has_place.ensures)
          (ap option_copied w.least-is ∙ w.least_job-least.ensures
          ∙ ap (λ (l : List Running). least_from job_before (option_copied c.loop-place.least) (jobs_with c.args.resolved.now l)) (sym led))
          c.loop-place.invariant
      | else-has_place w ↦
          place_out all c.args.resolved.now (holds (bit_and c.args.set c.at.result)) place (length all.goals) (option_copied c.loop-place.least)
          (option_copied c.if-has_place.least) _ below
          (sym w.if-has_place.ensures) (ap option_copied w.least-is) c.loop-place.invariant
    ]

pub returns : goal.returns
returns c =
    let all : OwnedByAll = c.args.self.now in
    let each : List Owned = c.self.inside.all.items in
    let many : length all.goals ≡ length each = as_many all each c.self.view_is in
    let end : c.len-place-end.result ≡ length each = c.len-place-end.ensures ∙ c.self.inside.all.ok.0 in
    let test = c.loop-place-test.false in
    let path : List ℕ = c.args.resolved.now.scratch in
    let out : (v : ℕ) → holds c.at.result v ≡ false → holds (users_at path c.self.inside.planners.sets.entries) v ≡ false =
    λ v f. ap (λ p. holds (users_at p c.self.inside.planners.sets.entries) v) (sym c.scratch.ensures) ∙ ap (λ set. holds set v) (sym c.at.ensures) ∙ f in
    let planners : HasPlannersOfAll c.self.inside.planners.sets.entries all = subst (HasPlannersOfAll c.self.inside.planners.sets.entries) c.self.view_is c.self.invariant.1 in
    places_done all c.args.resolved.now (holds (bit_and c.args.set c.at.result)) c.loop-place.place (length all.goals) (option_copied c.loop-place.least) _ (omega arith)
    c.loop-place.invariant
    ∙ ap (least_from job_before None) (jobs_near all c.args.resolved.now (holds c.args.set) (holds (bit_and c.args.set c.at.result)) 0 (length all.goals)
    (λ v t. of_both c.args.set c.at.result v t) (λ v f t. planners path v (out v (left_out_of c.args.set c.at.result v f t))))
