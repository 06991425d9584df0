-- How far goals are.
use Rattle.std.specs.Prelude.{◌≡◌, ℕ, Bool, true, false, ◌&&◌, List, bytes_eq, Option, None, Some}
use Rattle.model.specs.Worlds as model
use Rattle.model.specs.Goals.{is_building, same_resolved}

abbrev pub is_done : model.Status → Bool
is_done model.Waiting = false
is_done model.Planned = false
is_done (model.Building job) = false
is_done (model.Done path) = true
is_done (model.Failed why) = false

-- the path by which a goal is done
abbrev pub path_in : model.Status → Option (List ℕ)
path_in model.Waiting = None
path_in model.Planned = None
path_in (model.Building job) = None
path_in (model.Done path) = Some path
path_in (model.Failed why) = None

-- whether two are there, and are the same
abbrev pub are_same : {X : Type 0} → (X → X → Bool) → Option X → Option X → Bool
are_same same None y = false
are_same same (Some x) None = false
are_same same (Some x) (Some y) = same x y

-- whether two goals are done and came to the same: they are of one derivation, done by one path, and built from the same
abbrev pub is_alike : model.Goal → model.Goal → Bool
is_alike g h =
    bytes_eq g.derivation h.derivation && (are_same bytes_eq (path_in g.status) (path_in h.status) && are_same same_resolved g.resolved h.resolved)

-- a goal that is planned, and built from that
abbrev pub planned_with : model.Resolved → model.Goal → model.Goal
planned_with r g = record { derivation = g.derivation; resolved = Some r; status = model.Planned }

-- a goal is there, and is built in no job
abbrev pub IsIdle : Option model.Goal → Type 0
IsIdle None = ⊥
IsIdle (Some g) = is_building g.status ≡ false
