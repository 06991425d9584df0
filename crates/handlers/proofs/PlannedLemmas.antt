-- What is planned for the user at a place, as he sees it.
use Rattle.std.proofs.Common.{◌≡◌, ◌≢◌, ℕ, ◌⊎◌, inl, inr, subst, List, Option, Some, None, Result, Ok, Err}
use Rattle.std.specs.Prelude.{MatchResult, IfOk, IfSome, IfNone}
use Rattle.model.specs.declared.refusal.Refusal.{Refusal}
use Rattle.model.specs.declared.refusal.Refusal.TheVariants.{Memory}
use Rattle.model.specs.Worlds.{Setup, World}
use Rattle.model.specs.Choices.{Plan}
use Rattle.laws.proofs.ServedLemmas.{ok_is, not_both}
use Rattle.trust.specs.Trusting.{trusts}
use Rattle.trust.specs.Naming.{name_at}
use Rattle.trust.proofs.PlaceLemmas.{place_found}
use Rattle.trust.proofs.UsersLemmas.{distinct_users}
use Rattle.repair.specs.AtHand.{MadeRepairs}
use Rattle.repair.specs.Prepared.{HasRepaired, HasRepairedIf}
use Rattle.handlers.specs.declared.state.State.{State}
use Rattle.handlers.specs.States.{parts_of, HasPlace, observation_at}
use Rattle.handlers.specs.Parts.{world_in}
use Rattle.handlers.specs.Serving.{AtPlace, IsPlanned, IsNotPlanned, IsPlannedAt, plan_for}

-- a plan is the answer, or memory was refused
abbrev pub IsPlanOf : Result Plan Refusal → Result Plan Refusal → Type 0
IsPlanOf answer result = MatchResult result (λ p. answer ≡ Ok p) (λ why. (why ≡ Memory) ⊎ (answer ≡ Err why))

-- what is said of the user at a place is said of the one who is there
pub of_him : (s : State) (place : ℕ) (P : Setup → World → List ℕ → Type 0) → HasPlace s place → AtPlace (trusts s.trust) s.table.sources s.desks.items place P
    → P (parts_of s).setup (world_in (parts_of s)) (name_at s.users place)
of_him s place P inside at =
    at s.users s.limits.charge s.jobs.goals (name_at s.users place) s.run.listed (place_found s.users place (distinct_users s.users s.run.listed) inside)
    s.run.paired s.run.within

pub planned_for_him : (s : State) (place : ℕ) (class : List ℕ) (result : Result Plan Refusal) → HasPlace s place
    → IsPlannedAt (trusts s.trust) s.table.sources s.desks.items place class result → IsPlanOf (plan_for (observation_at s place) class) result
planned_for_him s place class (Ok p) inside planned = of_him s place (λ setup w u. IsPlanned setup w u class p) inside planned
planned_for_him s place class (Err why) inside planned = of_him s place (λ setup w u. IsNotPlanned setup w u class why) inside planned

-- what is repaired for a plan, if there is one, is what is repaired for the answer
pub needed_by : (answer planned : Result Plan Refusal) (found : Result (Option Plan) Refusal) → IsPlanOf answer planned
    → IfOk found (λ o. IfSome o (λ p. planned ≡ Ok p)) → IfOk found (λ o. IfNone o ((why : Refusal) × (planned ≡ Err why) × (why ≢ Memory)))
    → IfOk found (λ o. (made : MadeRepairs) → HasRepairedIf o made → (p : Plan) → answer ≡ Ok p → HasRepaired p made)
needed_by answer planned (Ok (Some q)) is some none = λ made has p here.
    let there : answer ≡ Ok q = subst (IsPlanOf answer) some is in
    subst (λ r. HasRepaired r made) (ok_is q p answer there here) has
needed_by answer planned (Ok None) is some none = λ made has p here.
    elim (subst (IsPlanOf answer) none.1 is) [
      | inl memory ↦ absurd (none.2 memory)
      | inr refused ↦ absurd (not_both p none.0 answer refused here)
    ]
needed_by answer planned (Err why) is some none = tt
