-- Labels by their paths.
use Rattle.std.specs.Prelude.{ℕ, Bool, List, map, filter, zip, if◌then◌else◌, Option, Some, None}
use Rattle.model.specs.Classes.{Class}
use Rattle.model.specs.Worlds.{Label}
use Rattle.model.specs.References.{class_before}
use Rattle.records.specs.Recorded.{Recorded}

-- the labels of a map's entries
abbrev pub label_at : List ℕ × Option Class → Label
label_at e = record { path = e.0; class = e.1 }

abbrev pub labels_at : List (List ℕ × Option Class) → List Label
labels_at entries = map label_at entries

-- of two classes of one path, the one that goes first
abbrev pub least_class : Option Class → Option Class → Option Class
least_class first other = if class_before other first then other else first

abbrev pub source_label : List ℕ → Label
source_label path = record { path = path; class = None }

abbrev pub record_label : Recorded → Label
record_label r = record { path = r.path; class = Some r.class }

-- the labels of the records that are marked
abbrev pub labels_of_marked : List (Recorded × Bool) → List Label
labels_of_marked pairs = map (λ m. record_label m.0) (filter (λ m. m.1) pairs)

abbrev pub marked_labels : List Recorded → List Bool → List Label
marked_labels records marks = labels_of_marked (zip records marks)
