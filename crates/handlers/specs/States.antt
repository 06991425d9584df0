-- A state, as clauses speak of it.
use Rattle.std.specs.Prelude.{ℕ, ◌<◌, length, Result}
use Rattle.model.specs.declared.refusal.Refusal.{Refusal}
use Rattle.model.specs.Events.{Request}
use Rattle.model.specs.Outcomes.{Observation, observation_of}
use Rattle.events.specs.declared.reply.Reply.{Reply}
use Rattle.trust.specs.Trusting.{trusts}
use Rattle.trust.specs.Naming.{name_at}
use Rattle.handlers.specs.Parts.{Parts, parts, world_in}
use Rattle.handlers.specs.Handling.{IsHandledByAll}
use Rattle.handlers.specs.declared.state.State.{State}

-- the parts of a state
abbrev pub parts_of : State → Parts
parts_of s = parts s.users s.limits.charge (trusts s.trust) s.jobs.goals s.table.sources s.desks.items

-- one of its users is at a place
abbrev pub HasPlace : State → ℕ → Type 0
HasPlace s place = place < length s.users

-- all that the user at a place sees
abbrev pub observation_at : State → ℕ → Observation
observation_at s place = observation_of (parts_of s).setup (world_in (parts_of s)) (name_at s.users place)

-- what a handler promises of a request of the user at a place
abbrev pub Handles : State → ℕ → Request → Result Reply Refusal → State → Type 0
Handles old place request result new = IsHandledByAll (parts_of old) place request result (parts_of new)
