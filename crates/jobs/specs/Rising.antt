-- Ascending lists of numbers.
use Rattle.std.specs.Prelude.{ℕ, ◌==◌, nat_lt, nat_le, Bool, true, ◌&&◌, if◌then◌else◌, List, [], ◌∷◌}

-- an ascending list with a number in its place
unfoldable pub with_number : ℕ → List ℕ → List ℕ
with_number m [] = m ∷ []
with_number m (n ∷ ns) = if nat_lt m n then m ∷ n ∷ ns else n ∷ with_number m ns

-- a list without a number that stands once in it
unfoldable pub without_number : ℕ → List ℕ → List ℕ
without_number m [] = []
without_number m (n ∷ ns) = if n == m then ns else n ∷ without_number m ns

-- whether numbers ascend, from the least that may be first
unfoldable pub rises : ℕ → List ℕ → Bool
rises least [] = true
rises least (n ∷ ns) = nat_le least n && rises n ns
