-- The number that digits write.
use Rattle.std.proofs.Common.{◌≡◌, ℕ, ◌+◌, ◌*◌, ◌-◌, ◌<◌, ◌≤◌, Bool, false, List, [], ◌∷◌, None, leb, cond, refl, arith, ◌&&◌, Some}
use Rattle.std.proofs.Math.Bool.{and-false}
use Rattle.model.specs.Lines.{number_behind, is_numeral}
use Rattle.lines.specs.Reading.{numeral_up_to}

pub number-grows : (n : ℕ) (digits : List ℕ) → n ≤ number_behind n digits
number-grows n [] = omega arith
number-grows n (d ∷ digits) = omega (arith, number-grows (10 * n + (d - 48)) digits)

pub leb-false : (m n : ℕ) → n < m → leb m n ≡ false
leb-false m n h = grind arith

neither : (b c : Bool) (n : ℕ) → c ≡ false → cond (b && c) (Some n) None ≡ None
neither b c n e = rw (e, and-false b) refl

-- a numeral that writes more is not taken
pub numeral-over : (most : ℕ) (digits : List ℕ) → most < number_behind 0 digits → numeral_up_to most digits ≡ None
numeral-over most digits h =
    neither (is_numeral digits) (leb (number_behind 0 digits) most) (number_behind 0 digits) (leb-false (number_behind 0 digits) most h)
