-- What a desk holds: its paths, each once, with the bytes of their archives.
use Rattle.std.specs.Prelude.{ℕ, ◌+◌, List, [], ◌∷◌, ◌++◌, ◌≡◌, map, sum_by, bytes_eq, unwrap_or, if◌then◌else◌}
use Rattle.std.specs.List.{list_any}
use Rattle.std.specs.Map.{lookup}
use Rattle.indexmap.specs.IndexMap.{swap_remove_entry}
use Rattle.model.specs.Classes.{is_one_of}

-- the paths with the bytes of their archives, and for how many more there is room
pub record Held : Type 0 where
  pub archives : List (List ℕ × ℕ)
  pub room : ℕ

abbrev pub paths_held : List (List ℕ × ℕ) → List (List ℕ)
paths_held archives = map (λ a. a.0) archives

-- the archives together, in bytes
abbrev pub bytes_held : List (List ℕ × ℕ) → ℕ
bytes_held archives = sum_by (λ a. a.1) archives

-- with one path more, unless it is held
abbrev pub with_archive : List ℕ × ℕ → List (List ℕ × ℕ) → List (List ℕ × ℕ)
with_archive a held = if list_any (bytes_eq a.0) (paths_held held) then held else held ++ a ∷ []

-- without a path, with the last one in its place
abbrev pub without_archive : List ℕ → List (List ℕ × ℕ) → List (List ℕ × ℕ)
without_archive path held = swap_remove_entry (bytes_eq path) held

-- the bytes of the archive of a path, none where it is not held
abbrev pub bytes_at : List ℕ → List (List ℕ × ℕ) → ℕ
bytes_at path held = unwrap_or (lookup (bytes_eq path) held) 0

-- with each of others, one after another
unfoldable pub with_archives : List (List ℕ × ℕ) → List (List ℕ × ℕ) → List (List ℕ × ℕ)
with_archives [] held = held
with_archives (a ∷ others) held = with_archives others (with_archive a held)

-- the keys of a set are these paths
abbrev pub IsSetOf : List (List ℕ) → List (List ℕ) → Type 0
IsSetOf keys paths = (path : List ℕ) → list_any (bytes_eq path) keys ≡ list_any (bytes_eq path) paths

-- what is charged for archives, one after another, beside these paths: nothing for a path that is among them, or came before
abbrev pub charged_beside : List (List ℕ × ℕ) → List (List ℕ) → ℕ
charged_beside [] paths = 0
charged_beside (a ∷ others) paths = (if is_one_of paths a.0 then 0 else a.1) + charged_beside others (paths ++ a.0 ∷ [])
