-- What a state keeps, and what is told of it.
use Rattle.std.proofs.Common.{◌≡◌, ℕ, ◌<◌, ◌≤◌, List, length, get_or, set, sym, ◌∙◌, ap, subst, Result}
use Rattle.std.proofs.lemmas.List.{get_or_default, set-get_or}
use Rattle.model.specs.declared.refusal.Refusal.{Refusal}
use Rattle.model.specs.Events.{Request}
use Rattle.events.specs.declared.reply.Reply.{Reply}
use Rattle.trust.specs.Trusting.{trusts}
use Rattle.trust.proofs.UsersLemmas.{few_users}
use Rattle.choose.specs.Visible.{IsComplete}
use Rattle.handlers.specs.declared.state.State.{State}
use Rattle.handlers.specs.States.{parts_of, HasPlace, Handles}
use Rattle.handlers.specs.Viewing.{bare, desk_at}
use Rattle.model.specs.Worlds.{Source}
use Rattle.realise.specs.Holdings.{Holdings}
use Rattle.handlers.specs.Sound.{IsSound}
use Rattle.handlers.specs.Handling.{IsHandledByObservation, IsHandledByAll, IsHandledAtDesk}
use Rattle.handlers.specs.Runs.{IsRun}
use Rattle.handlers.proofs.RunLemmas.{by_observation_of, at_own_desk, still_run, with_desk}
use Rattle.std.proofs.lemmas.List.Elements.{All-get_or}
use Rattle.handlers.proofs.ClosureLemmas.{all_complete}
use Rattle.model.specs.Limits.{most_users}

pub few_desks : (s : State) → length s.desks.items ≤ most_users
few_desks s = subst (λ n. n ≤ most_users) (sym s.run.paired) (few_users s.users s.run.listed)

pub complete_desks : (s : State) → IsComplete s.table.sources s.desks.items
complete_desks s = all_complete s.table.sources s.limits.charge s.desks.items s.run.sound

-- a user has a desk
pub has_desk : (s : State) (place : ℕ) → HasPlace s place → place < length s.desks.items
has_desk s place inside = subst (λ n. place < n) (sym s.run.paired) inside

-- what the user at a place is told of all that he sees, while nothing changes
pub by_sight : (s : State) (place : ℕ) (request : Request) (result : Result Reply Refusal)
    → IsHandledByObservation (trusts s.trust) s.limits.charge s.table.sources s.desks.items place request result s.table.sources (desk_at s.desks.items place)
    → Handles s place request result s
by_sight s place request result handles =
    by_observation_of (parts_of s) place request result s.table.sources (desk_at s.desks.items place) s.desks.items s.run
    (sym (set-get_or s.desks.items place bare)) handles

-- ---- a request that touches the desk of the user at a place, and the table

-- his desk
abbrev pub own_desk : State → ℕ → Holdings
own_desk s place = desk_at s.desks.items place

-- this was found at his place
module _ (s : State) (place : ℕ) (inside : place < length s.users) (d : Holdings) (here : d ≡ get_or s.desks.items place d) where
  -- so it is his desk
  pub found_desk : d ≡ own_desk s place
  found_desk = here ∙ get_or_default s.desks.items place d bare (has_desk s place inside)

  pub sound_desk : IsSound s.table.sources s.limits.charge d
  sound_desk =
      subst (IsSound s.table.sources s.limits.charge) (sym found_desk)
      (All-get_or (IsSound s.table.sources s.limits.charge) s.desks.items place bare (has_desk s place inside) s.run.sound)

  -- nothing changes
  pub at_kept_desk : (request : Request) (result : Result Reply Refusal)
      → IsHandledAtDesk s.limits.charge s.table.sources d request result s.table.sources d → Handles s place request result s
  at_kept_desk request result handles =
      subst (λ (desks : List Holdings). IsHandledByAll (parts_of s) place request result (record (parts_of s) { desks = desks }))
      (ap (set s.desks.items place) here ∙ set-get_or s.desks.items place d)
      (at_own_desk (parts_of s) place d request result s.table.sources d s.run here handles)

  -- he has another desk, and the table is another
  pub at_new_desk : (request : Request) (result : Result Reply Refusal) (table : List Source) (now : Holdings)
      → IsHandledAtDesk s.limits.charge s.table.sources d request result table now
      → IsHandledByAll (parts_of s) place request result (with_desk (parts_of s) place table now)
      × IsRun (with_desk (parts_of s) place table now)
  at_new_desk request result table now handles =
      let all = at_own_desk (parts_of s) place d request result table now s.run here handles in
      (all, still_run (parts_of s) (with_desk (parts_of s) place table now) place request result s.run inside all)

-- what is found at his place without one
pub own_desk_is : (s : State) (place : ℕ) → place < length s.users → own_desk s place ≡ get_or s.desks.items place (own_desk s place)
own_desk_is s place inside = get_or_default s.desks.items place bare (own_desk s place) (has_desk s place inside)
