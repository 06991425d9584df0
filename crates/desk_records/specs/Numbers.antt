-- Records with numbers, which ascend.
use Rattle.std.specs.Prelude.{ℕ, ◌<◌, ◌==◌, Bool, List, [], ◌∷◌, map, All, Option, Some, None, if◌then◌else◌}
use Rattle.std.specs.List.{AllPairs}
use Rattle.records.specs.Recorded.{Recorded}

-- the records
abbrev pub without_numbers : List (ℕ × Recorded) → List Recorded
without_numbers numbered = map (λ e. e.1) numbered

abbrev pub is_number : ℕ → ℕ → Bool
is_number number n = n == number

-- each number is above all before it
abbrev pub AscendByNumber : List (ℕ × Recorded) → Type 0
AscendByNumber numbered = AllPairs (λ e f. e.0 < f.0) numbered

-- a number is above all
abbrev pub IsAbove : ℕ → List (ℕ × Recorded) → Type 0
IsAbove number numbered = All (λ e. e.0 < number) numbered

-- the number of the first record that passes a test
abbrev pub number_of : (Recorded → Bool) → List (ℕ × Recorded) → Option ℕ
number_of test [] = None
number_of test (e ∷ numbered) = if test e.1 then Some e.0 else number_of test numbered
