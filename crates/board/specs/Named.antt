-- The board, in the names of its sessions.
use Rattle.std.specs.Prelude.{◌≡◌, ℕ, ◌<◌, ◌⊎◌, length, Option, Some, None, MatchBool, nat_lt, false}
use Rattle.board.specs.declared.named.GoalName.{GoalName}
use Rattle.board.specs.declared.named.Task.{Task}
use Rattle.board.specs.declared.named.Task.TheVariants.{Look, Build, Over, Wait}
use Rattle.board.specs.declared.state.Step.TheVariants as steps
use Rattle.board.specs.declared.ready.Grant.{Grant}
use Rattle.board.specs.Stages.{goal_at}
use Rattle.board.specs.Waking.{AreWoken, released}
use Rattle.board.specs.Ready.{HasLeft}
use Rattle.board.specs.Boards.{with_topic, with_missed, with_wait, with_goals}
use Rattle.board.specs.Parts.{StateView}
use Rattle.board.specs.States.{IsArrived, IsStep, with_board}

-- there may be a topic more, and nothing else has changed
abbrev pub IsGrown : StateView → StateView → Type 0
IsGrown old new = (new ≡ old) ⊎ (new ≡ with_board (with_topic old.goals) old)

-- a topic of the board has come, and woken those that wait for it; or something came that has none
abbrev pub HasCome : Option ℕ → StateView → StateView → Type 0
HasCome None old new = new ≡ with_board (with_missed old.goals) old
HasCome (Some topic) old new =
    MatchBool (nat_lt topic (length old.goals.lasts))
    (IsArrived topic old.goals new.goals × (new.ready ≡ old.ready))
    (new ≡ with_board (with_missed old.goals) old)

-- each goal is as it was; there may be more
abbrev pub KeepsGoals : StateView → StateView → Type 0
KeepsGoals old new =
    (place : ℕ) → place < length old.goals.goals → goal_at new.goals.goals place ≡ goal_at old.goals.goals place

-- a session waits no more: its goals that were looked at or could be built are to be looked at, and stand in no line
pub record IsClosed (seat : ℕ) (old new : StateView) : Type 0 where
  pub goals : AreWoken (λ place. released seat) old.goals.goals new.goals.goals
  pub rest : new.goals ≡ with_wait seat false (with_goals new.goals.goals old.goals)
  pub lanes : HasLeft seat old.ready.lanes new.ready.lanes
  pub crews : new.ready.crews ≡ old.ready.crews
  pub permits : new.ready.permits ≡ old.ready.permits

-- a goal of a name is looked at
pub record IsLookOf (seat : ℕ) (name : GoalName) (old new : StateView) : Type 0 where
  pub place : ℕ
  pub looked : IsStep seat old new (steps.Look place)
  pub user : name.user ≡ (goal_at old.goals.goals place).user
  pub number : name.number ≡ (goal_at old.goals.goals place).number

-- a goal of a name is built
pub record IsBuildOf (seat : ℕ) (name : GoalName) (old new : StateView) : Type 0 where
  pub grant : Grant
  pub built : IsStep seat old new (steps.Build grant)
  pub user : name.user ≡ grant.user
  pub number : name.number ≡ grant.number

-- what a session is to do, in names
abbrev pub IsTask : ℕ → StateView → StateView → Task → Type 0
IsTask seat old new (Look name) = IsLookOf seat name old new
IsTask seat old new (Build name) = IsBuildOf seat name old new
IsTask seat old new Over = IsStep seat old new steps.Over
IsTask seat old new Wait = IsStep seat old new steps.Wait
