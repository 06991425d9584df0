-- What a run gives.
use Rattle.std.specs.Prelude.{◌≡◌, ◌<◌, ◌≤◌, ◌⊎◌, ℕ, List, [], ◌∷◌, ◌++◌, length, take, flat_map, false, Option, Some, None}
use Rattle.std.specs.List.{join_with_byte}
use Rattle.std.specs.Int.NonZero.{non_zero_u8_get}
use Rattle.model.specs.Archives.{File, nar}
use Rattle.model.specs.Limits.{most_archive_bytes}
use Rattle.model.specs.Inputs.{Input, inputs_text}
use Rattle.nb.specs.Tasks.{Asks, AskNothing}
use Rattle.nb.specs.declared.task.Task.{Task}
use Rattle.nb.specs.declared.task.Task.TheVariants.{Text, Own, Inputs, Fail, Half, Twice}
use Rattle.nb.specs.declared.outcome.Outcome.{Outcome}

-- the archive of a plain file with these bytes
abbrev pub file : List ℕ → List ℕ
file bytes = nar (File false bytes)

-- it writes this, and succeeds
abbrev pub Writes : List ℕ → Outcome → Type 0
Writes text o = (o.written.items ≡ text) × (o.status ≡ 0)

-- it writes nothing, and ends with this status
abbrev pub EndsWith : ℕ → Outcome → Type 0
EndsWith status o = (o.written.items ≡ []) × (o.status ≡ status)

-- it writes the archive of a plain file with these bytes, unless that is over 64 MiB
abbrev pub WritesFile : List ℕ → Outcome → Type 0
WritesFile bytes o = ((length (file bytes) ≤ most_archive_bytes) × Writes (file bytes) o)
    ⊎ ((most_archive_bytes < length (file bytes)) × EndsWith 3 o)

-- the path of an input, and a newline
abbrev pub path_line : Input → List ℕ
path_line input = input.path ++ 10 ∷ []

-- the bytes are the file of these inputs
abbrev pub AreInputs : List ℕ → List Input → Type 0
AreInputs bytes inputs = inputs_text inputs ≡ bytes

-- they are the file of no inputs
abbrev pub AreNone : List ℕ → Type 0
AreNone bytes = (inputs : List Input) → AreInputs bytes inputs → ⊥

-- it writes the archive of a plain file with the paths of the inputs, unless they cannot be read
abbrev pub WritesPaths : Option (List ℕ) → Outcome → Type 0
WritesPaths None o = EndsWith 3 o
WritesPaths (Some bytes) o =
    ((inputs : List Input) × AreInputs bytes inputs × WritesFile (flat_map path_line inputs) o)
    ⊎ (AreNone bytes × EndsWith 3 o)

-- it does what is asked for with the words behind the first, its own path and the file of its inputs
abbrev pub Does : Task → List (List ℕ) → List ℕ → Option (List ℕ) → Outcome → Type 0
Does Text others out inputs o = WritesFile (join_with_byte 32 others) o
Does Own others out inputs o = WritesFile out o
Does Inputs others out inputs o = WritesPaths inputs o
Does (Fail status) others out inputs o = EndsWith (non_zero_u8_get status) o
Does Half others out inputs o = Writes (take 50 (file [])) o
Does Twice others out inputs o = Writes (file [] ++ file []) o

-- the words behind the first one
abbrev pub behind_first : List (List ℕ) → List (List ℕ)
behind_first [] = []
behind_first (word ∷ others) = others

-- a run with these arguments, this path of its own and this file of inputs gives this
abbrev pub IsOutcome : List (List ℕ) → List ℕ → Option (List ℕ) → Outcome → Type 0
IsOutcome words out inputs o =
    ((task : Task) × Asks words task × Does task (behind_first words) out inputs o)
    ⊎ (AskNothing words × EndsWith 2 o)
