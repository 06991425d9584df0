-- The records below a derivation, one step after another, told by their classes and paths.
use Rattle.std.specs.Prelude.{◌≡◌, ℕ, zero, suc, Bool, false, ◌&&◌, ◌||◌, not, List, length, drop, ◌≤◌, filter, bytes_eq, Option, Some, None}
use Rattle.std.specs.List.{list_any}
use Rattle.model.specs.Classes.{Class}
use Rattle.model.specs.Worlds.{Label}
use Rattle.records.specs.Recorded.{Recorded}
use Rattle.desk_records.specs.RecordLists.{is_recorded_at}
use Rattle.outputs.specs.declared.below.Reached.{Reached}

-- ---- labels

-- whether a label is of this path and this class
abbrev pub is_for : List ℕ → Option Class → Bool
is_for class None = false
is_for class (Some c) = bytes_eq c.path class

abbrev pub is_label_for : List ℕ → List ℕ → Label → Bool
is_label_for path class l = bytes_eq l.path path && is_for class l.class

-- whether a label of these records is of this path and this class
abbrev pub is_named_in : List Recorded → List ℕ → List ℕ → Bool
is_named_in records class path = list_any (λ r. list_any (is_label_for path class) r.labels) records

-- ---- sets

-- whether a set has a class
abbrev pub has_class : List (List ℕ) → List ℕ → Bool
has_class keys class = list_any (bytes_eq class) keys

-- whether a pair of a path and a class is among these
abbrev pub is_named : List (List ℕ × List ℕ) → List ℕ → List ℕ → Bool
is_named pairs path class = list_any (λ pair. bytes_eq path pair.0 && bytes_eq class pair.1) pairs

-- whether a record is named by pairs of a path and a class
abbrev pub is_record_named : List (List ℕ × List ℕ) → Recorded → Bool
is_record_named pairs r = is_named pairs r.path r.class.path

-- whether it is known that records of a class at a path are reached: it is that of an input, or they were named
abbrev pub is_known : List (List ℕ) → List (List ℕ × List ℕ) → List ℕ → List ℕ → Bool
is_known inputs seen class path = has_class inputs class || is_named seen path class

-- whether a label is the first of this path and this class
abbrev pub is_news : List (List ℕ) → List (List ℕ × List ℕ) → List ℕ → List ℕ → Label → Bool
is_news inputs seen class path l = is_label_for path class l && not (is_known inputs seen class path)

-- ---- records

-- the records whose class and path pass a test
abbrev pub chosen : (List ℕ → List ℕ → Bool) → List Recorded → List Recorded
chosen test records = filter (λ r. test r.class.path r.path) records

-- the same records, where those of one class at one path come in the same order
abbrev pub AreSame : List Recorded → List Recorded → Type 0
AreSame xs ys = (class path : List ℕ) → filter (is_recorded_at class path) xs ≡ filter (is_recorded_at class path) ys

-- ---- steps

-- whether records of a class at a path are reached in so many steps
unfoldable pub below_at : List Recorded → (List ℕ → Bool) → ℕ → List ℕ → List ℕ → Bool
below_at records inputs zero class path = inputs class
below_at records inputs (suc k) class path =
    below_at records inputs k class path || list_any (λ a. below_at records inputs k a.class.path a.path && list_any (is_label_for path class) a.labels) records

-- whether they are reached in this step, and in none before
abbrev pub fresh_at : List Recorded → (List ℕ → Bool) → ℕ → List ℕ → List ℕ → Bool
fresh_at records inputs zero class path = below_at records inputs zero class path
fresh_at records inputs (suc k) class path = below_at records inputs (suc k) class path && not (below_at records inputs k class path)

-- what is reached in so many steps, what of it in the last, and what was named before
pub record IsReached (records : List Recorded) (inputs : List (List ℕ)) (k : ℕ) (reached : Reached) : Type 0 where
  pub within : reached.from ≤ length reached.records.items
  pub all : AreSame reached.records.items (chosen (below_at records (has_class inputs) k) records)
  pub fresh : AreSame (drop reached.from reached.records.items) (chosen (fresh_at records (has_class inputs) k) records)
  pub known : (class path : List ℕ) → is_known inputs reached.seen.keys class path ≡ below_at records (has_class inputs) k class path

-- a step more
abbrev pub IsStep : List Recorded → List (List ℕ) → Reached → Reached → Type 0
IsStep records inputs old new = (k : ℕ) → IsReached records inputs k old → IsReached records inputs (suc k) new

-- these are all that are reached
abbrev pub AreReached : List Recorded → (List ℕ → Bool) → List Recorded → Type 0
AreReached records inputs found = AreSame found (chosen (below_at records inputs (length records)) records)
