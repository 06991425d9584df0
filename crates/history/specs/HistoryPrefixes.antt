-- The rule of the history that is seen outside the lock.
use Rattle.std.specs.Prelude.{ℕ, ◌≡◌, ◌<◌, ◌==◌, true, List, [], ◌∷◌, ◌++◌, length, MatchBool}
use mathlib.Core.List.{IsPrefix}
use Rattle.logbook.specs.Pages.{Cell, Step, View, Book, Named}
use Rattle.history.specs.declared.row.Row.{Row}

-- the first word is the length of the history. A book has two words, of which this one leaves the second at 0
pub record IsCounted (cells : List Cell) (log : List Row) : Type 0 where
  pub words : cells ≡ (length log, true) ∷ (0, true) ∷ []

abbrev pub head_of : Book → Named
head_of b = record { tracked = true; key = 0; book = b }

abbrev pub no_book : Book
no_book = record { number = 0; log_name = 0; cells_name = 0 }

-- ys begins with xs, and goes on
abbrev pub IsLonger : List Row → List Row → Type 0
IsLonger xs ys = IsPrefix xs ys × (length xs < length ys)

-- the row was added to all that had been seen; or the history was longer, and was seen
abbrev pub Adds : Step Row → View Row ℕ → ℕ → View Row ℕ → Type 0
Adds s v found w = MatchBool (found == s.old) (w.0 ≡ v.0 ++ s.ask ∷ []) (length w.0 ≡ found)
