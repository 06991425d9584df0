-- A derivation's inputs and sources, among those that are known.
use Rattle.std.specs.Prelude.{ℕ, Bool, not, is_some, bytes_eq, List}
use Rattle.std.specs.List.{list_all, list_any}
use Rattle.model.specs.Classes.{Known, known_at}

-- whether a path is none of a set's keys
abbrev pub is_absent : List (List ℕ) → List ℕ → Bool
is_absent keys path = not (list_any (bytes_eq path) keys)

-- whether all inputs are known
abbrev pub has_inputs : Known → List (List ℕ) → Bool
has_inputs known inputs = list_all (λ path. is_some (known_at known path)) inputs
