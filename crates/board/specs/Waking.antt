-- Goals that are woken.
use Rattle.std.specs.Prelude.{◌≡◌, ℕ, ◌<◌, ◌&&◌, List, length, if◌then◌else◌}
use Rattle.trust.specs.Trusting.{holds}
use Rattle.board.specs.declared.stage.Stage.TheVariants.{Woken}
use Rattle.board.specs.declared.stage.Goal.{Goal}
use Rattle.board.specs.Stages.{goal_at, at_stage, waits_on, is_filed, is_begun_of}
use Rattle.board.specs.Rows.{is_in}

-- a goal once a topic has come: it is woken where it waits for that
abbrev pub woken_by : ℕ → Goal → Goal
woken_by topic goal = if waits_on topic goal.stage then at_stage Woken goal else goal

-- a goal once trust in or by a user has changed: it is woken where it waits, and its user reaches him
abbrev pub woken_by_trust : ℕ → Goal → Goal
woken_by_trust user goal = if is_filed goal.stage && holds goal.reached user then at_stage Woken goal else goal

-- a goal at a place, once those at some places were woken by a topic
abbrev pub woken_among : ℕ → List ℕ → ℕ → Goal → Goal
woken_among topic places place goal = if is_in place places then woken_by topic goal else goal

-- a goal once its session waits no more: one that is looked at, or can be built, is to be looked at again
abbrev pub released : ℕ → Goal → Goal
released seat goal = if is_begun_of seat goal then at_stage Woken goal else goal

-- each goal is what it was, but as is said for its place
pub record AreWoken (wake : ℕ → Goal → Goal) (old new : List Goal) : Type 0 where
  pub as_many : length new ≡ length old
  pub each : (place : ℕ) → place < length old → goal_at new place ≡ wake place (goal_at old place)
