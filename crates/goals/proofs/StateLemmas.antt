-- What a state keeps, and what is promised of the user at a place of it.
use Rattle.std.proofs.Common.{◌≡◌, ℕ, ◌<◌, ◌≤◌, get_or, List, [], length, refl, sym, ap, subst, Result}
use Rattle.std.specs.Prelude.{slice_set}
use Rattle.std.proofs.lemmas.List.{get_or_default, set-get_or}
use Rattle.model.specs.declared.refusal.Refusal.{Refusal}
use Rattle.model.specs.Worlds.{Source, Goal}
use Rattle.model.specs.Events.{Request}
use Rattle.events.specs.declared.reply.Reply.{Reply}
use Rattle.trust.specs.Trusting.{trusts}
use Rattle.trust.proofs.UsersLemmas.{few_users}
use Rattle.realise.specs.Holdings.{Holdings}
use Rattle.jobs.specs.Owned.{OwnedByAll, goals_at, with_goals_at}
use Rattle.handlers.specs.declared.state.State.{State}
use Rattle.handlers.specs.States.{parts_of, HasPlace, Handles}
use Rattle.handlers.specs.Viewing.{bare, desk_at}
use Rattle.handlers.specs.Handling.{IsHandledAtPlace, IsHandledByAll}
use Rattle.handlers.proofs.RunLemmas.{at_place_of}
use Rattle.handlers.proofs.StateLemmas.{has_desk}
use Rattle.model.specs.Limits.{most_users}

pub few_of : (s : State) → length s.users ≤ most_users
few_of s = few_users s.users s.run.listed

module _ (s : State) (place : ℕ) (below : HasPlace s place) where
  pub with_goals : place < length s.jobs.goals
  with_goals = subst (λ n. place < n) (sym s.run.with_goals) below

  -- the desk that is read at a place
  pub own_desk : (d : Holdings) → get_or s.desks.items place d ≡ desk_at s.desks.items place
  own_desk d = get_or_default s.desks.items place d bare (has_desk s place below)

module _ (s : State) (place : ℕ) (request : Request) (result : Result Reply Refusal) where
  -- a request that may change the goals of the user at a place, the table and his desk
  abbrev pub HandlesAt : List Goal → List Source → Holdings → Type 0
  HandlesAt changed table after =
      IsHandledAtPlace s.users s.limits.charge (trusts s.trust) s.jobs.goals s.table.sources s.desks.items place request result changed table after

  -- nothing changes
  pub left_so : HandlesAt (goals_at place s.jobs) s.table.sources (desk_at s.desks.items place) → Handles s place request result s
  left_so handles =
      at_place_of (parts_of s) place request result (goals_at place s.jobs) s.table.sources (desk_at s.desks.items place) s.jobs.goals s.desks.items s.run
      (sym (set-get_or s.jobs.goals place [])) (sym (set-get_or s.desks.items place bare)) handles

  module _ (new : OwnedByAll) (changed : List Goal) (table : List Source) (is : new ≡ with_goals_at place changed s.jobs) where
    -- his goals change, and the table
    pub goals_so : HandlesAt changed table (desk_at s.desks.items place)
        → IsHandledByAll (parts_of s) place request result (record (parts_of s) { goals = new.goals; table = table })
    goals_so handles =
        at_place_of (parts_of s) place request result changed table (desk_at s.desks.items place) new.goals s.desks.items s.run
        (ap (λ (j : OwnedByAll). j.goals) is) (sym (set-get_or s.desks.items place bare)) handles

    -- and his desk
    pub all_so : (after : Holdings) → HandlesAt changed table after
        → IsHandledByAll (parts_of s) place request result
        (record (parts_of s) { goals = new.goals; table = table; desks = slice_set s.desks.items place after })
    all_so after handles =
        at_place_of (parts_of s) place request result changed table after new.goals (slice_set s.desks.items place after) s.run
        (ap (λ (j : OwnedByAll). j.goals) is) refl handles
