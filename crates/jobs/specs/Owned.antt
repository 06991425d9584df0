-- What contracts see of goals: those of one user beside his name, and those of all users of a run.
use Rattle.std.specs.Prelude.{◌≡◌, ℕ, List, [], map, get_or, slice_set, Option, Some}
use Rattle.model.specs.Worlds.{Goal}
use Rattle.model.specs.Goals.{goal_at, with_goal_at}

-- the goals of one user, of which the first has number 1
pub record Owned : Type 0 where
  pub owner : List ℕ
  pub goals : List Goal

abbrev pub with_goals : List Goal → Owned → Owned
with_goals goals o = record o { goals = goals }

-- one goal has changed, and nothing else
abbrev pub ChangesOwn : ℕ → (Goal → Goal) → Owned → Owned → Type 0
ChangesOwn n change old new = (g : Goal) → goal_at n old.goals ≡ Some g → new ≡ with_goals (with_goal_at n (change g) old.goals) old

-- the users of a run, and for each of them, in their order, his goals
pub record OwnedByAll : Type 0 where
  pub users : List (List ℕ)
  pub goals : List (List Goal)

-- the goals of the user at a place
abbrev pub goals_at : ℕ → OwnedByAll → List Goal
goals_at place all = get_or all.goals place []

abbrev pub with_goals_at : ℕ → List Goal → OwnedByAll → OwnedByAll
with_goals_at place goals all = record all { goals = slice_set all.goals place goals }

-- the goals of these users
abbrev pub all_of : List Owned → OwnedByAll
all_of each = record { users = map (λ o. o.owner) each; goals = map (λ o. o.goals) each }

-- a goal of the user at a place
abbrev pub goal_of : ℕ → ℕ → OwnedByAll → Option Goal
goal_of place n all = goal_at n (goals_at place all)

abbrev pub with_goal_of : ℕ → ℕ → Goal → OwnedByAll → OwnedByAll
with_goal_of place n g all = with_goals_at place (with_goal_at n g (goals_at place all)) all

-- one goal of the user at a place has changed, and nothing else
abbrev pub ChangesGoal : ℕ → ℕ → (Goal → Goal) → OwnedByAll → OwnedByAll → Type 0
ChangesGoal place n change old new = (g : Goal) → goal_of place n old ≡ Some g → new ≡ with_goal_of place n (change g) old
