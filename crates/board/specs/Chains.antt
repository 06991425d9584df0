-- Goals that a search has come to.
use Rattle.std.specs.Prelude.{◌≡◌, ℕ, ◌<◌, Bool, true, false, List, [], ◌∷◌, ◌++◌, ◌⊎◌, length, All, slice_index_or}
use Rattle.std.specs.Prelude.{if◌then◌else◌}
use Rattle.std.specs.List.{count_by}
use Rattle.board.specs.declared.stage.Goal.{Goal}
use Rattle.board.specs.Stages.{goal_at, HangsOn, LeadsTo, is_under_way}
use Rattle.board.specs.Rows.{is_in}
use Rattle.board.specs.Boards.{GoalsView}

-- places below a size
pub record ChainView : Type 0 where
  pub places : List ℕ
  pub size : ℕ

abbrev pub empty_chain : ℕ → ChainView
empty_chain size = record { places = []; size = size }

-- each place once, with the test whether it is there
pub record IsChain (places : List ℕ) (has : List Bool) : Type 0 where
  pub counted : count_by (λ b. b) has ≡ length places
  pub within : All (λ place. place < length has) places
  pub known : (place : ℕ) → place < length has → slice_index_or has place false ≡ is_in place places

-- a place more, if it is not there
abbrev pub once_more : ℕ → List ℕ → List ℕ
once_more place places = if is_in place places then places else places ++ place ∷ []

abbrev pub with_place : ℕ → ChainView → ChainView
with_place place c = record { places = once_more place c.places; size = c.size }

-- a goal is in a chain, and is not under way
abbrev pub IsPassed : List Goal → List Bool → List ℕ → ℕ → Type 0
IsPassed goals waiting places place = (is_in place places ≡ true) × (is_under_way waiting (goal_at goals place) ≡ false)

-- each goal on which that at a place hangs is in a chain, and is not under way
abbrev pub IsFollowed : List Goal → List Bool → List ℕ → ℕ → Type 0
IsFollowed goals waiting places place = (next : ℕ) → HangsOn goals place next → IsPassed goals waiting places next

-- each goal of a session is in a chain, and is not under way
abbrev pub IsBegun : List Goal → List Bool → List ℕ → ℕ → Type 0
IsBegun goals waiting places seat =
    (place : ℕ) → place < length goals → (goal_at goals place).seat ≡ seat → IsPassed goals waiting places place

-- a chain of hanging-on leads from a goal of a session to that at a place
pub record IsLedTo (goals : List Goal) (seat place : ℕ) : Type 0 where
  pub own : ℕ
  pub within : own < length goals
  pub of_seat : (goal_at goals own).seat ≡ seat
  pub leads : LeadsTo goals own place

-- a chain leads from a goal of a session to each of those places
abbrev pub AreLedTo : List Goal → ℕ → List ℕ → Type 0
AreLedTo goals seat places = (place : ℕ) → is_in place places ≡ true → IsLedTo goals seat place

-- a goal under way to which a chain leads from one of a session
pub record IsWitness (goals : List Goal) (waiting : List Bool) (seat place : ℕ) : Type 0 where
  pub within : place < length goals
  pub led : IsLedTo goals seat place
  pub under_way : is_under_way waiting (goal_at goals place) ≡ true

-- a list begins with another
abbrev pub BeginsWith : List ℕ → List ℕ → Type 0
BeginsWith longer shorter = (more : List ℕ) × (longer ≡ shorter ++ more)

-- the goal at a place is one of a session, and under way
pub record IsOwnUnderWay (b : GoalsView) (seat place : ℕ) : Type 0 where
  pub within : place < length b.goals
  pub of_seat : (goal_at b.goals place).seat ≡ seat
  pub under_way : is_under_way b.waiting (goal_at b.goals place) ≡ true

-- the goal at one place hangs on that at the next, which is under way
pub record IsNextUnderWay (b : GoalsView) (place next : ℕ) : Type 0 where
  pub hangs : HangsOn b.goals place next
  pub under_way : is_under_way b.waiting (goal_at b.goals next) ≡ true

-- the places are of goals of a session
abbrev pub AreOf : List Goal → ℕ → List ℕ → Type 0
AreOf goals seat places = (place : ℕ) → is_in place places ≡ true → (place < length goals) × ((goal_at goals place).seat ≡ seat)

-- what is new in a chain is that on which the goal at a place hangs
abbrev pub AreFrom : List Goal → ℕ → List ℕ → List ℕ → Type 0
AreFrom goals place old new = (next : ℕ) → is_in next new ≡ true → (is_in next old ≡ true) ⊎ HangsOn goals place next

-- of some places, each goal of a session is in a chain, and is not under way
abbrev pub IsBegunWith : List Goal → List Bool → List ℕ → List ℕ → ℕ → Type 0
IsBegunWith goals waiting row places seat =
    (place : ℕ) → place < length goals → (goal_at goals place).seat ≡ seat → is_in place row ≡ true → IsPassed goals waiting places place

-- of some places, each on which a goal hangs is in a chain, and is not under way
abbrev pub IsFollowedWith : List Goal → List Bool → List ℕ → List ℕ → ℕ → Type 0
IsFollowedWith goals waiting row places place =
    (next : ℕ) → HangsOn goals place next → is_in next row ≡ true → IsPassed goals waiting places next
