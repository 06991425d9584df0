-- What topics are called.
use Rattle.std.specs.Prelude.{◌≡◌, ℕ, List, Some, bytes_eq, if◌then◌else◌}
use Rattle.std.specs.Map.{lookup}

-- a class has a topic, and each other the one that it had
abbrev pub IsNamed : List ℕ → ℕ → List (List ℕ × ℕ) → List (List ℕ × ℕ) → Type 0
IsNamed class topic old new =
    (other : List ℕ) → lookup (bytes_eq other) new ≡ (if bytes_eq other class then Some topic else lookup (bytes_eq other) old)
