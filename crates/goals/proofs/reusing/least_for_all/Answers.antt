use Rattle.std.proofs.Common.{◌≡◌, ℕ, ◌∙◌, sym, ap, subst, List, length, bit_and, rules, arith}
use Rattle.std.specs.Prelude.{option_copied}
use Rattle.model.specs.Worlds.{Goal}
use Rattle.model.specs.Orders.{least}
use Rattle.trust.specs.Trusting.{holds}
use Rattle.records.specs.Recorded.{Recorded}
use Rattle.realise.specs.Holdings.{Holdings}
use Rattle.handlers.specs.Viewing.{desk_at, places_of}
use Rattle.handlers.specs.Supported.{goals_of}
use Rattle.handlers.proofs.StateLemmas.{few_desks}
use Rattle.goals.specs.Reusing.{path_before, found_among, found_on, found_in}
use Rattle.jobs.specs.Planners.{HasPlanners}
use Rattle.jobs.proofs.PlannerLemmas.{none_done, left_out_of, of_both}
use Rattle.goals.proofs.ReuseLemmas.{place_in, place_out, nobody, found_near}
use Rattle.goals.proofs.reusing.least_for_all.Goals as goal
use Rattle.goals.proofs.reusing.least_for_all.Goals.{then-has_place, else-has_place}

pub has_place-requires : goal.has_place-requires
has_place-requires c = let few = few_desks c.args.state.now in omega (arith, few)

pub loop-place-init : goal.loop-place-init
loop-place-init c =
    let s = c.args.state.now in
    nobody (λ p. found_on c.args.resolved.now c.args.labels.now (desk_at s.desks.items p) (goals_of s.jobs.goals p)) (holds (bit_and c.args.set
    c.planners.result))

pub loop-place-preserved : goal.loop-place-preserved
loop-place-preserved c =
    let s = c.args.state.now in
    let here : ℕ = c.loop-place.place in
    let found : ℕ → List Recorded = λ p. found_on c.args.resolved.now c.args.labels.now (desk_at s.desks.items p) (goals_of s.jobs.goals p) in
    elim c.if-has_place.branch [
      | then-has_place w ↦
          place_in found (holds (bit_and c.args.set c.planners.result)) here (option_copied c.loop-place.least) (option_copied c.if-has_place.least)
          (sym w.if-has_place.ensures)
          (ap option_copied w.least-is ∙ w.least_for_user-least.ensures) c.loop-place.invariant
      | else-has_place w ↦
          place_out found (holds (bit_and c.args.set c.planners.result)) here (option_copied c.loop-place.least) (option_copied c.if-has_place.least)
          (sym w.if-has_place.ensures)
          (ap option_copied w.least-is) c.loop-place.invariant
    ]

pub returns : goal.returns
returns c =
    let s = c.args.state.now in
    let r = c.args.resolved.now in
    let labels = c.args.labels.now in
    let desks : List Holdings = s.desks.items in
    let goals : List (List Goal) = s.jobs.goals in
    let found : ℕ → List Recorded = λ p. found_on r labels (desk_at desks p) (goals_of goals p) in
    let planners : HasPlanners r.scratch (holds c.planners.result) s.jobs =
    subst (λ path. HasPlanners path (holds c.planners.result) s.jobs) c.scratch.ensures c.planners.ensures in
    let end : c.loop-place.place ≡ length desks = search rules in
    c.loop-place.invariant
    ∙ ap (λ n. least path_before (found_in r labels desks goals (places_of (holds (bit_and c.args.set c.planners.result)) n))) end
    ∙ ap (least path_before) (found_near found (holds c.args.set) (holds (bit_and c.args.set c.planners.result)) 0 (length desks)
    (λ v t. of_both c.args.set c.planners.result v t)
    (λ v f t. ap (found_among r labels (desk_at desks v) (goals_of goals v))
    (none_done r.scratch (goals_of goals v) (planners v (left_out_of c.args.set c.planners.result v f t)))))
