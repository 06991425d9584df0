-- The parts of a board.
use Rattle.std.specs.Prelude.{◌≡◌, ℕ, List, length, Option}
use Rattle.model.specs.Limits.{most_users}
use Rattle.board.specs.Boards.{GoalsView}
use Rattle.board.specs.Ready.{ReadyView}

-- the goals, and those of them that can be built
pub record StateView : Type 0 where
  pub goals : GoalsView
  pub ready : ReadyView

-- the parts are of the same sessions, and of 64 users
pub record AreOfOneRun (goals : GoalsView) (ready : ReadyView) (witnesses : List (Option ℕ)) : Type 0 where
  pub crews : length ready.crews ≡ length goals.waiting
  pub witnesses_many : length witnesses ≡ length goals.waiting
  pub users : length ready.permits.shares ≡ most_users
