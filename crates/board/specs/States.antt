-- The board: how far the goals of all sessions are, and what each session is to do.
use Rattle.std.specs.Prelude.{◌≡◌, ℕ, ◌<◌, true, length, MatchBool, ⊤, if◌then◌else◌}
use Rattle.board.specs.declared.stage.Stage.{Stage}
use Rattle.board.specs.declared.stage.Stage.TheVariants.{Woken, Working}
use Rattle.board.specs.declared.stage.Stage.TheVariants as stages
use Rattle.board.specs.declared.state.Next.{Next}
use Rattle.board.specs.declared.state.Next.TheVariants as next
use Rattle.board.specs.declared.state.Step.{Step}
use Rattle.board.specs.declared.state.Step.TheVariants.{Look, Build, Over, Wait}
use Rattle.board.specs.declared.stage.Goal.{Goal}
use Rattle.board.specs.declared.ready.Grant.{Grant}
use Rattle.board.specs.Stages.{goal_at, at_stage, reaching, looked, is_looked, is_working, is_under_way, IsOver}
use Rattle.board.specs.Rows.{IsWokenAt, NoneWoken}
use Rattle.board.specs.Boards.{GoalsView, with_goal, with_wait, has_moved, IsCome}
use Rattle.board.specs.Waking.{AreWoken, woken_by}
use Rattle.board.specs.Ready.{ReadyView, IsGiven, IsNotTurnOf, with_ready, has_ended}
use Rattle.board.specs.Parts.{StateView}

-- a goal is under way
abbrev pub IsHeld : GoalsView → Type 0
IsHeld b = (place : ℕ) × (place < length b.goals) × (is_under_way b.waiting (goal_at b.goals place) ≡ true)

-- the goal at a place is at another stage
abbrev pub with_filed : ℕ → Stage → GoalsView → GoalsView
with_filed place stage b = with_goal place (at_stage stage (goal_at b.goals place)) b

-- a goal of a session was given a builder, since it comes before all others
pub record IsBuilt (seat : ℕ) (grant : Grant) (old new : StateView) : Type 0 where
  pub of_seat : grant.seat ≡ seat
  pub given : IsGiven old.ready grant new.ready
  pub goals : new.goals ≡ with_filed grant.goal Working old.goals

-- the goal of a session at a place was to be looked at, and is looked at
pub record IsLooked (seat place : ℕ) (old new : StateView) : Type 0 where
  pub woken : IsWokenAt seat old.goals.goals place
  pub goals : new.goals ≡ with_goal place (looked old.goals.arrivals (goal_at old.goals.goals place)) old.goals
  pub ready : new.ready ≡ old.ready

-- it is not a session's turn, and none of its goals is to be looked at
abbrev pub HasNothing : ℕ → StateView → Type 0
HasNothing seat b = NoneWoken seat b.goals.goals × IsNotTurnOf seat b.ready

-- what a session is to do: a goal of it is built, or looked at; or nothing can change its goals; or it waits while a goal is under way
abbrev pub IsStep : ℕ → StateView → StateView → Step → Type 0
IsStep seat old new (Look place) = IsLooked seat place old new × IsNotTurnOf seat old.ready
IsStep seat old new (Build grant) = IsBuilt seat grant old new
IsStep seat old new Over = (new ≡ old) × HasNothing seat old × IsOver old.goals.goals old.goals.waiting seat
IsStep seat old new Wait = (new ≡ old) × HasNothing seat old × IsHeld old.goals

-- a session is to wait
abbrev pub HasNoStep : ℕ → StateView → Type 0
HasNoStep seat b = HasNothing seat b × IsHeld b.goals

-- what it waits for is a topic of the board
abbrev pub IsNextWithin : ℕ → Next → Type 0
IsNextWithin topics next.Over = ⊤
IsNextWithin topics next.Ready = ⊤
IsNextWithin topics (next.Waits topic) = topic < topics

-- a goal that was looked at: it is over, can be built, or waits for a topic; but where that has come since the look began, it is to be looked at
-- again
abbrev pub goal_after : GoalsView → ℕ → Next → Goal → Goal
goal_after b reached next.Over g = reaching reached (at_stage stages.Over g)
goal_after b reached next.Ready g = reaching reached (at_stage stages.Ready g)
goal_after b reached (next.Waits topic) g =
    if has_moved b topic g.since then at_stage Woken g else reaching reached (at_stage (stages.Waits topic) g)

-- a goal of which its session tells what it found: nothing changes where it is not looked at
abbrev pub goal_filed : GoalsView → ℕ → Next → Goal → Goal
goal_filed b reached how g = if is_looked g.stage then goal_after b reached how g else g

abbrev pub goals_filed : ℕ → ℕ → Next → GoalsView → GoalsView
goals_filed place reached how b = with_goal place (goal_filed b reached how (goal_at b.goals place)) b

-- a goal that can be built stands in the line of its user
abbrev pub ready_with : ℕ → Goal → Next → ReadyView → ReadyView
ready_with place g next.Over r = r
ready_with place g next.Ready r = with_ready g.seat g.user g.number place r
ready_with place g (next.Waits topic) r = r

abbrev pub ready_filed : ℕ → Next → StateView → ReadyView
ready_filed place how b =
    let g = goal_at b.goals.goals place in if is_looked g.stage then ready_with place g how b.ready else b.ready

-- a topic has come, and woken those that wait for it
pub record IsArrived (topic : ℕ) (old new : GoalsView) : Type 0 where
  pub came : IsCome topic old new
  pub woken : AreWoken (λ place. woken_by topic) old.goals new.goals

-- a goal's builder has ended: the permit and the worker are free, the goal is to be looked at, and its class and its job have come
pub record HasEnded (place : ℕ) (old new : StateView) : Type 0 where
  pub between : GoalsView
  pub ready : new.ready ≡ has_ended (goal_at old.goals.goals place).seat (goal_at old.goals.goals place).user old.ready
  pub class : IsArrived (goal_at old.goals.goals place).class (with_filed place Woken old.goals) between
  pub job : IsArrived (goal_at old.goals.goals place).job between new.goals

-- that, where it had one
abbrev pub IsEnded : ℕ → StateView → StateView → Type 0
IsEnded place old new = MatchBool (is_working (goal_at old.goals.goals place).stage) (HasEnded place old new) (new ≡ old)

-- a session waits
abbrev pub has_opened : ℕ → StateView → StateView
has_opened seat b = record { goals = with_wait seat true b.goals; ready = b.ready }

-- the goals are these now, and who has builders is as it was
abbrev pub with_board : GoalsView → StateView → StateView
with_board goals b = record { goals = goals; ready = b.ready }
