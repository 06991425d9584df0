-- What goals that are being built are built from is on their users' desks.
use Rattle.std.specs.Prelude.{◌≡◌, ℕ, true, List, [], All, Option, Some, get_or}
use Rattle.model.specs.Classes.{Class}
use Rattle.model.specs.Worlds.{Entry, path_of_entry, Job, Building, Resolved, Goal}
use Rattle.model.specs.Closures.{class_of_entry}
use Rattle.realise.specs.Holdings.{Holdings, has_labelled}

-- an empty desk
abbrev pub bare : Holdings
bare = record { known = record { derivations = []; sources = [] }; records = []; pins = []; archives = []; charge = 0 }

-- the desk at a place, an empty one past the end of the desks
abbrev pub desk_at : List Holdings → ℕ → Holdings
desk_at desks place = get_or desks place bare

-- the goals of the user at a place, none past the end
abbrev pub goals_of : List (List Goal) → ℕ → List Goal
goals_of goals place = get_or goals place []

-- a desk has what the path of an entry is labelled with
abbrev pub IsEntryOn : Holdings → Entry → Type 0
IsEntryOn d e = has_labelled d (path_of_entry e) (class_of_entry e) ≡ true

-- a goal that is being built has all that it is built from on a desk
abbrev pub IsSupported : Holdings → Goal → Type 0
IsSupported d g = (job : Job) → g.status ≡ Building job → (r : Resolved) → g.resolved ≡ Some r → All (IsEntryOn d) r.closure

-- so it is with each of a user's goals
abbrev pub AreSupportedOn : Holdings → List Goal → Type 0
AreSupportedOn d goals = All (IsSupported d) goals

-- and with those of all users, each on his own desk
abbrev pub AreSupported : List Holdings → List (List Goal) → Type 0
AreSupported desks goals = (place : ℕ) → AreSupportedOn (desk_at desks place) (goals_of goals place)

-- what a desk has labelled it has so afterwards
abbrev pub GainsOnly : Holdings → Holdings → Type 0
GainsOnly before after = (path : List ℕ) (class : Option Class) → has_labelled before path class ≡ true → has_labelled after path class ≡ true
