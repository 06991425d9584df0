-- What a sink takes.
use Rattle.std.specs.Prelude.{ℕ, List, ◌++◌}

-- whatever a sink has taken from a start on, it has then taken a text more
abbrev pub TakesMore : {A : Type 0} → (took : A → A → List ℕ → Type 0) → (old new : A) → List ℕ → Type 0
TakesMore {A} took old new text = (start : A) (taken : List ℕ) → took start old taken → took start new (taken ++ text)
