-- The events that can reach a user by trust that is held at the times concerned.
-- This is the project's own: an event counts if a chain of trust leads from the user to its actor, each link of it held when the event has
-- happened or later, and none earlier than the next link towards the actor.
use Rattle.std.specs.Prelude.{◌≡◌, ℕ, Bool, true, not, ◌&&◌, ◌||◌, if◌then◌else◌, List, [], ◌∷◌, map, bytes_eq}
use Rattle.std.specs.List.{list_any}
use Rattle.model.specs.Worlds.{Setup, is_user, Job, Status, Waiting, Planned, Building, Done, Failed, Goal, Desk, World, nothing}
use Rattle.model.specs.Goals.{in_status}
use Rattle.model.specs.Events.{Request, Trust, Distrust, Event}
use Rattle.model.specs.Outcomes.{reaches}
use Rattle.model.specs.Steps.{after}

-- ---- who is near

-- whether v is of the set, or reached from one of the run's users who is
abbrev pub reached_from : Setup → World → (List ℕ → Bool) → List ℕ → Bool
reached_from setup w set v = set v || list_any (λ x. set x && reaches setup w x v) setup.users

-- from whom anything can come to u over the events that follow: where none follow those whom he reaches, and before each event those who are
-- near after it, with all whom these reach
unfoldable pub near : Setup → List ℕ → World → List Event → List ℕ → Bool
near setup u w [] = reaches setup w u
near setup u w (e ∷ events) = reached_from setup w (near setup u (after setup w e) events)

-- ---- striking out

-- of the events that follow a world, those whose actors are near once they have happened
unfoldable pub kept_from : Setup → List ℕ → World → List Event → List Event
kept_from setup u w [] = []
kept_from setup u w (e ∷ events) =
    let kept = kept_from setup u (after setup w e) events in
    if near setup u (after setup w e) events e.actor then e ∷ kept else kept

-- of all events of a run, those whose actors are near once they have happened
abbrev pub strike_timed : Setup → List ℕ → List Event → List Event
strike_timed setup u events = kept_from setup u nothing events

-- ---- trust alone

-- whom a user trusts after a request of his
abbrev pub trusted_by : Setup → (user : List ℕ) → Request → (List ℕ → Bool) → List ℕ → Bool
trusted_by setup user (Trust other) trusted y = if is_user setup other && not (bytes_eq other user) then bytes_eq y other || trusted y else trusted y
trusted_by setup user (Distrust other) trusted y = if is_user setup other then not (bytes_eq y other) && trusted y else trusted y
trusted_by setup user request trusted y = trusted y

-- whether x trusts y after an event, by whom he trusted before
abbrev pub trusts_after : Setup → Event → (List ℕ → List ℕ → Bool) → List ℕ → List ℕ → Bool
trusts_after setup e trusts x y = if bytes_eq x e.actor && is_user setup e.actor then trusted_by setup e.actor e.request (trusts x) y else trusts x y

-- ---- goals that may wait

-- a goal stays in a job of these, and waits where it is in another
abbrev pub status_in : (Job → Bool) → Status → Status
status_in jobs Waiting = Waiting
status_in jobs Planned = Planned
status_in jobs (Building job) = if jobs job then Building job else Waiting
status_in jobs (Done path) = Done path
status_in jobs (Failed why) = Failed why

abbrev pub goal_in : (Job → Bool) → Goal → Goal
goal_in jobs g = in_status (status_in jobs g.status) g

-- a desk whose goals are in these jobs alone
abbrev pub desk_in : (Job → Bool) → Desk → Desk
desk_in jobs d = record d { goals = map (goal_in jobs) d.goals }

-- the users of a set have the same desks in two worlds, but that a goal which is built in the second under a leader who is not of the set may wait in the first
pub record AgreesOn (set : List ℕ → Bool) (w v : World) : Type 0 where
  pub jobs : Job → Bool
  pub inside : (job : Job) → set job.leader ≡ true → jobs job ≡ true
  pub desks : (x : List ℕ) → set x ≡ true → w x ≡ desk_in jobs (v x)
