-- The lines of a file that were refused with 25.
use Rattle.std.specs.Prelude.{◌≡◌, ℕ, ◌+◌, min, Bool, true, false, if◌then◌else◌, List, [], ◌∷◌, length, slice_get, Option, None, Some, Result, Ok, Err}
use Rattle.model.specs.declared.refusal.Refusal.{Refusal}
use Rattle.model.specs.declared.refusal.Refusal.TheVariants.{BadLine}
use Rattle.model.specs.Talk.{LineRow, Refuses}
use Rattle.lines.specs.declared.line.Reading.{Reading}
use Rattle.lines.specs.declared.line.Reading.TheVariants as reading
use Rattle.replaying.specs.declared.bad_lines.BadLines.{BadLines}

-- the numbers of the lines of which this is so, where the first line has this one
abbrev pub numbers_where : (LineRow → Bool) → ℕ → List LineRow → List ℕ
numbers_where test n [] = []
numbers_where test n (row ∷ rows) = if test row then n ∷ numbers_where test (n + 1) rows else numbers_where test (n + 1) rows

abbrev pub is_bad : Refusal → Bool
is_bad BadLine = true
is_bad why = false

-- whether a line was refused with 25 by the session itself
abbrev pub is_bad_line : LineRow → Bool
is_bad_line (Refuses why) = is_bad why
is_bad_line row = false

-- whether it is to be, by what it comes to
abbrev pub is_bad_reading : Reading → Bool
is_bad_reading (reading.Refuses why) = is_bad why
is_bad_reading other = false

-- their numbers, where the first line has this one
abbrev pub bad_numbers : ℕ → List LineRow → List ℕ
bad_numbers n rows = numbers_where is_bad_line n rows

-- these are the lines of those numbers: how many there are, at most the greatest number, and the first
abbrev pub AreBad : Option BadLines → List ℕ → Type 0
AreBad None numbers = numbers ≡ []
AreBad (Some lines) numbers = (lines.count ≡ min (length numbers) 18446744073709551615) × (slice_get numbers 0 ≡ Some lines.first)

-- ---- how it ended

-- whether it ended well, whatever it told
abbrev pub end_of : Result (Option BadLines) Refusal → Result (Unit {0}) Refusal
end_of (Ok bad) = Ok tt
end_of (Err why) = Err why

-- an end, with the lines that were told before it
abbrev pub ended_with : Result (Unit {0}) Refusal → Result (Option BadLines) Refusal → Result (Option BadLines) Refusal
ended_with (Ok u) (Ok bad) = Ok bad
ended_with (Ok u) (Err other) = Ok None
ended_with (Err why) told = Err why
