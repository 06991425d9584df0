-- Rows of places, and what they cover.
use Rattle.std.specs.Prelude.{◌≡◌, ◌≢◌, ℕ, ◌<◌, ◌==◌, ◌||◌, Bool, true, false, List, length}
use Rattle.std.specs.List.{list_any}
use Rattle.board.specs.declared.stage.Goal.{Goal}
use Rattle.board.specs.Stages.{goal_at, is_woken_of}

-- whether a place stands in a row
abbrev pub is_in : ℕ → List ℕ → Bool
is_in place row = list_any (λ other. other == place) row

-- places that may be woken, or all
pub record WokenView : Type 0 where
  pub places : List ℕ
  pub is_all : Bool

-- whether a place may be woken
abbrev pub may_stand : ℕ → WokenView → Bool
may_stand place woken = woken.is_all || is_in place woken.places

-- whichever may be woken in one may be in the other
abbrev pub IsKeptIn : WokenView → WokenView → Type 0
IsKeptIn old new = (place : ℕ) → may_stand place old ≡ true → may_stand place new ≡ true

-- each goal of a kind stands in a row
abbrev pub CoversIn : (Goal → Bool) → List Goal → List ℕ → Type 0
CoversIn is_kind goals row = (place : ℕ) → place < length goals → is_kind (goal_at goals place) ≡ true → is_in place row ≡ true

-- a goal of a session stands at a place that is to be looked at
abbrev pub IsWokenAt : ℕ → List Goal → ℕ → Type 0
IsWokenAt seat goals place = (place < length goals) × (is_woken_of seat (goal_at goals place) ≡ true)

-- each goal of a session that is to be looked at is among those that may be
abbrev pub CoversWoken : ℕ → List Goal → WokenView → Type 0
CoversWoken seat goals woken = (place : ℕ) → place < length goals → is_woken_of seat (goal_at goals place) ≡ true → may_stand place woken ≡ true

-- each but one
abbrev pub CoversWokenBut : ℕ → ℕ → List Goal → WokenView → Type 0
CoversWokenBut one seat goals woken =
    (place : ℕ) → place < length goals → place ≢ one → is_woken_of seat (goal_at goals place) ≡ true → may_stand place woken ≡ true

-- no goal of a session is to be looked at
abbrev pub NoneWoken : ℕ → List Goal → Type 0
NoneWoken seat goals = (place : ℕ) → place < length goals → is_woken_of seat (goal_at goals place) ≡ false
