-- The pins of a desk.
use Rattle.std.specs.Prelude.{ℕ, List, map}
use Rattle.model.specs.Worlds.{Pin}

-- the pins of a map's entries
abbrev pub pin_at : List ℕ × List ℕ → Pin
pin_at e = record { class = e.0; path = e.1 }

abbrev pub pins_at : List (List ℕ × List ℕ) → List Pin
pins_at entries = map pin_at entries
