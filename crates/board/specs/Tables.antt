-- Goals by their places, and what each session has of them.
use Rattle.std.specs.Prelude.{◌≡◌, ℕ, ◌<◌, Bool, false, List, [], length, replicate, All, slice_index_or, slice_set}
use Rattle.board.specs.declared.stage.Goal.{Goal}
use Rattle.board.specs.declared.table.Seat.{Seat}
use Rattle.board.specs.Stages.{belongs}
use Rattle.board.specs.Rows.{CoversIn, CoversWoken}

-- the goals, and which sessions wait
pub record TableView : Type 0 where
  pub goals : List Goal
  pub waiting : List Bool

abbrev pub seat_at : List Seat → ℕ → Seat
seat_at seats seat = slice_index_or seats seat (record { own = []; woken = record { places = []; is_all = false } })

-- each goal is of a session, and stands among the goals of that; and one that is woken among those that may be
pub record IsTable (goals : List Goal) (seats : List Seat) (waiting : List Bool) : Type 0 where
  pub as_many : length seats ≡ length waiting
  pub within : All (λ g. g.seat < length seats) goals
  pub own : (seat : ℕ) → CoversIn (belongs seat) goals (seat_at seats seat).own
  pub woken : (seat : ℕ) → CoversWoken seat goals (seat_at seats seat).woken

abbrev pub no_table : ℕ → TableView
no_table sessions = record { goals = []; waiting = replicate sessions false }

-- the goal at a place is this
abbrev pub with_goal : ℕ → Goal → TableView → TableView
with_goal place goal t = record { goals = slice_set t.goals place goal; waiting = t.waiting }

-- a session waits, or does not
abbrev pub with_wait : ℕ → Bool → TableView → TableView
with_wait seat waits t = record { goals = t.goals; waiting = slice_set t.waiting seat waits }
