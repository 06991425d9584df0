-- Callers as contracts see them.
use Rattle.std.specs.Prelude.{◌≡◌, ℕ, zero, suc, ◌+◌, ◌==◌, Bool, true, false, List, [], ◌∷◌, ◌++◌, if◌then◌else◌}
use mathlib.Core.List.{IsPrefix}
use Rattle.history.specs.declared.row.Row.{Row}

-- the number of a caller, how many of its calls have a row, its sure rows, which are the history right after the last of
-- these, and whether it was told that the book is stopped
pub record Caller : Type 0 where
  pub number : ℕ
  pub calls : ℕ
  pub sure : List Row
  pub stopped : Bool

-- a caller of this number that has made no call
abbrev pub newcomer : ℕ → Caller
newcomer number = record { number = number; calls = 0; sure = []; stopped = false }

-- after one more call that has a row, with the rows then
abbrev pub answered : Caller → List Row → Caller
answered p rows = record { number = p.number; calls = p.calls + 1; sure = rows; stopped = p.stopped }

-- after it was told that the book is stopped
abbrev pub told_stopped : Caller → Caller
told_stopped p = record { number = p.number; calls = p.calls; sure = p.sure; stopped = true }

-- after it was told whether the book is stopped
abbrev pub knowing : Bool → Caller → Caller
knowing stopped p = record { number = p.number; calls = p.calls; sure = p.sure; stopped = stopped }

-- how many rows are of the caller of this number
abbrev pub rows_of : ℕ → List Row → ℕ
rows_of number [] = 0
rows_of number (r ∷ rows) = (if r.pass == number then 1 else 0) + rows_of number rows

-- what a caller knows is so: the rows begin with its sure rows, each of its calls has its row among them, and no other row
-- is of its number; and the book is stopped if it was told so
pub record Matches (rows : List Row) (stopped : Bool) (p : Caller) : Type 0 where
  pub sure : IsPrefix p.sure rows
  pub each : rows_of p.number rows ≡ p.calls
  pub stopped_too : p.stopped ≡ true → stopped ≡ true

-- 0 to n - 1
abbrev pub below : ℕ → List ℕ
below zero = []
below (suc n) = below n ++ n ∷ []

-- ---- what a pass has seen

-- a pass: its calls, what it has seen of the history, and how many of its calls stopped the front
pub record PassKnowledge : Type 0 where
  pub caller : Caller
  pub seen : List Row
  pub stops : ℕ

-- a pass of this number that has made no call, and seen nothing
abbrev pub new_pass : ℕ → PassKnowledge
new_pass number = record { caller = newcomer number; seen = []; stops = 0 }

-- the same but for its calls
abbrev pub with_caller : PassKnowledge → Caller → PassKnowledge
with_caller p caller = record { caller = caller; seen = p.seen; stops = p.stops }

-- the same but for what it has seen
abbrev pub seeing : PassKnowledge → List Row → PassKnowledge
seeing p rows = record { caller = p.caller; seen = rows; stops = p.stops }

-- a front is stopped once, or not at all
abbrev pub stops_of : Bool → ℕ
stops_of stopped = if stopped then 1 else 0
