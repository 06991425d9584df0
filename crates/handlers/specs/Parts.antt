-- The world that the parts of a store stand for, and what an event does to it.
use Rattle.std.specs.Prelude.{◌≡◌, ℕ, suc, Bool, if◌then◌else◌, List, [], ◌∷◌, bytes_eq}
use Rattle.model.specs.Worlds.{Source, Setup, Goal}
use Rattle.model.specs.Worlds as worlds
use Rattle.model.specs.Events as events
use Rattle.model.specs.Replies as replies
use Rattle.model.specs.Steps.{reply_to, after}
use Rattle.trust.specs.Naming.{trusted_at}
use Rattle.realise.specs.Holdings.{Holdings}
use Rattle.store.specs.Stored.{put_all}
use Rattle.handlers.specs.Stored.{stored_by}
use Rattle.handlers.specs.Sound.{Beside, desk_of}
pub use Rattle.handlers.specs.Supported.{goals_of}

-- the desk of a user among paired users and desks, by whom those at each place trust; whoever is not of them has nothing
abbrev pub desk_among : (ℕ → Beside) → List Source → List (List ℕ) → List Holdings → List ℕ → worlds.Desk
desk_among beside table [] desks u = worlds.empty_desk
desk_among beside table (name ∷ names) [] u = worlds.empty_desk
desk_among beside table (name ∷ names) (d ∷ desks) u =
    if bytes_eq name u then desk_of (beside 0) table d else desk_among (λ place. beside (suc place)) table names desks u

-- what the desk of the user at a place has beside what he holds
abbrev pub beside_at : List (List ℕ) → (ℕ → ℕ → Bool) → List (List Goal) → ℕ → Beside
beside_at users trust goals place = record { trusted = trusted_at users trust place; goals = goals_of goals place }

-- what a run was given, who trusts whom, by their places, the goals of each user, the trees that are stored, and the desks, in
-- the order of the users
pub record Parts : Type 0 where
  pub setup : Setup
  pub trust : ℕ → ℕ → Bool
  pub goals : List (List Goal)
  pub table : List Source
  pub desks : List Holdings

-- the world that they stand for
abbrev pub world_in : Parts → worlds.World
world_in parts = desk_among (beside_at parts.setup.users parts.trust parts.goals) parts.table parts.setup.users parts.desks

-- users under this limit, who of them trusts whom, their goals, a table and desks
abbrev pub parts : List (List ℕ) → ℕ → (ℕ → ℕ → Bool) → List (List Goal) → List Source → List Holdings → Parts
parts users charge trust goals table desks = record {
  setup = record { users = users; charge = charge };
  trust = trust;
  goals = goals;
  table = table;
  desks = desks;
}

-- what is stored once an event in a world was not refused
abbrev pub stored_after : Setup → worlds.World → events.Event → List Source → List Source
stored_after setup w event sources = put_all (stored_by setup w event.actor event.request) sources

-- the reply is the model's, and so is the world after it
pub record IsStep (setup : Setup) (old : worlds.World) (event : events.Event) (reply : replies.Reply) (new : worlds.World) : Type 0 where
  pub told : reply ≡ reply_to setup old event
  pub world : new ≡ after setup old event
