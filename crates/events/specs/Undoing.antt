-- Events that say whom users trust, and the events that take them back.
use Rattle.std.specs.Prelude.{◌≡◌, ℕ, ◌==◌, Bool, true, false, if◌then◌else◌, List, [], ◌∷◌, Option, Some, None}
use Rattle.model.specs.Events.{Request, Trust, Distrust, Event}
use Rattle.model.specs.Timed.{strike_timed}
use Rattle.trust.specs.Trusting.{with_said}
use Rattle.trust.specs.Naming.{place_of, name_at}
use Rattle.events.specs.declared.undoing.Said.{Said}
use Rattle.events.specs.Ever.{run_of}

-- ---- what an event says

-- of users at two places; nothing where one of them is none of the run, or where they are one
abbrev pub said_of : Option ℕ → Option ℕ → Bool → Option Said
said_of None other trusted = None
said_of (Some user) None trusted = None
said_of (Some user) (Some other) trusted = if user == other then None else Some (record { user = user; other = other; trusted = trusted })

abbrev pub said_in : List (List ℕ) → (actor : List ℕ) → Request → Option Said
said_in users actor (Trust other) = said_of (place_of users actor) (place_of users other) true
said_in users actor (Distrust other) = said_of (place_of users actor) (place_of users other) false
said_in users actor request = None

-- what an event says of whom a user of the run trusts from then on
abbrev pub said_by : List (List ℕ) → Event → Option Said
said_by users e = said_in users e.actor e.request

-- ---- trust after an event, and before it again

abbrev pub trust_with : Option Said → (ℕ → ℕ → Bool) → ℕ → ℕ → Bool
trust_with None trust = trust
trust_with (Some said) trust = with_said said.user said.other said.trusted trust

-- a request to trust another user, or not to, that says this
abbrev pub saying : Bool → Request → Request
saying trusted (Trust other) = if trusted then Trust other else Distrust other
saying trusted (Distrust other) = if trusted then Trust other else Distrust other
saying trusted request = request

-- the event that takes an event back: it says what was so before
abbrev pub undoing : Option Said → (ℕ → ℕ → Bool) → Event → Event
undoing None trust e = e
undoing (Some said) trust e = record { actor = e.actor; request = saying (trust said.user said.other) e.request }

-- ---- of many events

unfoldable pub trust_after : List (List ℕ) → (ℕ → ℕ → Bool) → List Event → ℕ → ℕ → Bool
trust_after users trust [] = trust
trust_after users trust (e ∷ events) = trust_after users (trust_with (said_by users e) trust) events

-- the events that take events back, each in the place of its own
unfoldable pub all_undoing : List (List ℕ) → (ℕ → ℕ → Bool) → List Event → List Event
all_undoing users trust [] = []
all_undoing users trust (e ∷ events) = undoing (said_by users e) trust e ∷ all_undoing users (trust_with (said_by users e) trust) events

-- at first nobody trusts anybody
abbrev pub nobody : ℕ → ℕ → Bool
nobody user other = false

-- events are in the places of these, and take them back: from the new trust to the old
pub record AreUndone (users : List (List ℕ)) (old : ℕ → ℕ → Bool) (all back : List Event) (new : ℕ → ℕ → Bool) : Type 0 where
  pub trust : new ≡ trust_after users old all
  pub events : back ≡ all_undoing users old all

-- where events take all others back, those are kept whose actors are near to the user at a place once they have happened, under any limit
abbrev pub KeepsNear : (users : List (List ℕ)) (place : ℕ) (back : List Event) (trust : ℕ → ℕ → Bool) (kept : List Event) → Type 0
KeepsNear users place back trust kept = (all : List Event) (charge : ℕ) → AreUndone users nobody all back trust
    → kept ≡ strike_timed (run_of users charge) (name_at users place) all
