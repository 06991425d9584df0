-- Records of a class, at a path, and what their labels name.
use Rattle.std.specs.Prelude.{ℕ, Bool, ◌&&◌, not, List, filter, bytes_eq}
use Rattle.std.specs.List.{list_any}
use Rattle.model.specs.ForgetRequests.{is_class_at}
use Rattle.records.specs.Recorded.{Recorded}

-- whether a record is of a class
abbrev pub is_record_of : List ℕ → Recorded → Bool
is_record_of class r = bytes_eq r.class.path class

-- whether a record is of a class, at a path
abbrev pub is_recorded_at : List ℕ → List ℕ → Recorded → Bool
is_recorded_at class path r = bytes_eq r.class.path class && bytes_eq r.path path

-- the others
abbrev pub remaining : List ℕ → List ℕ → List Recorded → List Recorded
remaining class path records = filter (λ r. not (is_recorded_at class path r)) records

-- whether a record has a label of a class at a path
abbrev pub refers_to : List ℕ → List ℕ → Recorded → Bool
refers_to class path r = list_any (λ l. is_class_at class path l.path l.class) r.labels
