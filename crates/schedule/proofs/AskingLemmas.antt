-- The job that a goal leads, found by the parts of a core.
use Rattle.std.proofs.Common.{◌≡◌, ℕ, Bool, true, false, List, length, sym, ◌∙◌, ap, Option, Some, None, Result, Err}
use Rattle.std.specs.Prelude.{◌≢◌, if◌then◌else◌}
use Rattle.model.specs.declared.refusal.Refusal.{Refusal}
use Rattle.model.specs.declared.refusal.Refusal.TheVariants.{UnknownUser, WrongState, Stopped}
use Rattle.model.specs.Reach.{is_among}
use Rattle.model.specs.Worlds.{Source, Setup, World, Resolved, Job, Goal, are_users}
use Rattle.model.specs.Goals.{goal_at, is_in, Running}
use Rattle.model.specs.RunningJobs.{with_kept, led_job, job_led_by}
use Rattle.trust.specs.Naming.{place_of, name_at, IsWithin}
use Rattle.realise.specs.Holdings.{Holdings}
use Rattle.handlers.specs.Parts.{desk_among, beside_at, goals_of}
use Rattle.trust.proofs.FirstPlaceLemmas.{place_found, place_is_among, no_place}
use Rattle.trust.proofs.PlaceLemmas.{name_found}
use Rattle.handlers.proofs.ClosureLemmas.{his_desk}

module _ (users : List (List ℕ)) (limit : ℕ) (trust : ℕ → ℕ → Bool) (goals : List (List Goal)) (table : List Source) (desks : List Holdings) (user : List ℕ) where
  abbrev world : World
  world = desk_among (beside_at users trust goals) table users desks

  abbrev setup : Setup
  setup = record { users = users; charge = limit }

  -- of a user of the run: the goal stands at his place
  pub led_at : (place n : ℕ) → are_users users ≡ true → place_of users user ≡ Some place → length desks ≡ length users → IsWithin (length users) trust
      → job_led_by setup world user n ≡ led_job (record { leader = name_at users place; number = n }) (goal_at n (goals_of goals place))
  led_at place n listed found paired within =
      let own = name_found users user place found in
      let among : is_among user users ≡ true = place_is_among users user place (place_found users user place found) in
      ap (λ (b : Bool). if b then led_job (record { leader = user; number = n }) (goal_at n (world user).goals) else Err UnknownUser) among
      ∙ (λ i. led_job (record { leader = sym own.1 i; number = n }) (goal_at n (his_desk users limit trust goals table desks user place listed found paired within i).goals))

  -- of anyone else
  pub led_by_none : (n : ℕ) → place_of users user ≡ None → job_led_by setup world user n ≡ Err UnknownUser
  led_by_none n none =
      ap (λ (b : Bool). if b then led_job (record { leader = user; number = n }) (goal_at n (world user).goals) else Err UnknownUser) (no_place users user none)

-- no goal leads none because a store is stopped
kept_going : (job : Job) (kept : Option Resolved) → with_kept job kept ≢ Err Stopped
kept_going job None e = cc
kept_going job (Some r) e = cc

led_going : (job : Job) (g : Option Goal) → led_job job g ≢ Err Stopped
led_going job None e = cc
led_going job (Some g) e = if_going (is_in job g.status) (with_kept job g.resolved) (kept_going job g.resolved) e
  where
    if_going : (b : Bool) (r : Result Running Refusal) → r ≢ Err Stopped → (if b then r else Err WrongState) ≢ Err Stopped
    if_going true r going h = going h
    if_going false r going h = cc

pub by_going : (setup : Setup) (w : World) (u : List ℕ) (n : ℕ) → job_led_by setup w u n ≢ Err Stopped
by_going setup w u n e = if_going (is_among u setup.users) (led_job (record { leader = u; number = n }) (goal_at n (w u).goals)) (led_going (record { leader = u; number = n }) (goal_at n (w u).goals)) e
  where
    if_going : (b : Bool) (r : Result Running Refusal) → r ≢ Err Stopped → (if b then r else Err UnknownUser) ≢ Err Stopped
    if_going true r going h = going h
    if_going false r going h = cc
