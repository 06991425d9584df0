-- What digits of base 16 stand for.
use Rattle.std.specs.Prelude.{◌≡◌, ℕ, ◌<◌, List, slice_index}
use Rattle.hex.specs.Hex.{lower_digits}

-- each digit in lower case stands at its place for its value, and no byte for 16 or more
pub record AreValues (values : List ℕ) : Type 0 where
  pub digits : (v : ℕ) → v < 16 → slice_index values (slice_index lower_digits v) ≡ v
  pub small : (c : ℕ) → slice_index values c < 16
