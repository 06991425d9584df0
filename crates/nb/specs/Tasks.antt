-- What the words of a command line ask a builder to do.
use Rattle.std.specs.Prelude.{◌≡◌, ◌<◌, ◌≤◌, ℕ, List, [], ◌∷◌, length, codes}
use Rattle.std.specs.Str.Parse.{IsNumeral, digits_value, without_leading_plus}
use Rattle.std.specs.Int.NonZero.{non_zero_u8_get}
use Rattle.nb.specs.declared.task.Task.{Task}
use Rattle.nb.specs.declared.task.Task.TheVariants.{Text, Own, Inputs, Fail, Half, Twice}

-- a word writes this status, 1 to 255, as Rust reads numbers
abbrev pub IsStatusIn : List ℕ → ℕ → Type 0
IsStatusIn word status = IsNumeral 10 (without_leading_plus word)
    × (status ≡ digits_value 10 (without_leading_plus word)) × (1 ≤ status) × (status ≤ 255)

-- one word, and nothing else
abbrev pub AreJust : List ℕ → List (List ℕ) → Type 0
AreJust word words = words ≡ word ∷ []

-- the words ask for this
abbrev pub Asks : List (List ℕ) → Task → Type 0
Asks words Text = (others : List (List ℕ)) × (words ≡ codes "text" ∷ others) × (0 < length others)
Asks words Own = AreJust (codes "self") words
Asks words Inputs = AreJust (codes "inputs") words
Asks words (Fail status) = (word : List ℕ) × (words ≡ codes "fail" ∷ word ∷ []) × IsStatusIn word (non_zero_u8_get status)
Asks words Half = AreJust (codes "half") words
Asks words Twice = AreJust (codes "twice") words

-- they ask for nothing
abbrev pub AskNothing : List (List ℕ) → Type 0
AskNothing words = (task : Task) → Asks words task → ⊥
