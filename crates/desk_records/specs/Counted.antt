-- How often the records of a desk are at a path, and how often their labels name another record.
use Rattle.std.specs.Prelude.{◌≡◌, ℕ, ◌+◌, ◌-◌, Bool, ◌&&◌, not, cond, List, [], sum_by, count_by, bytes_eq, unwrap_or}
use Rattle.std.specs.Map.{lookup}
use Rattle.model.specs.Worlds.{Label}
use Rattle.model.specs.ForgetRequests.{is_class_at}
use Rattle.records.specs.Recorded.{Recorded}
use Rattle.desk_records.specs.RecordLists.{is_recorded_at}

-- ---- counts

-- how often a path is counted
abbrev pub count_at : List ℕ → List (List ℕ × ℕ) → ℕ
count_at path counts = unwrap_or (lookup (bytes_eq path) counts) 0

-- how often a path is counted under a class
abbrev pub count_under : List ℕ → List ℕ → List (List ℕ × List (List ℕ × ℕ)) → ℕ
count_under class path named = count_at path (unwrap_or (lookup (bytes_eq class) named) [])

-- a path is counted once more, and no other
abbrev pub HasOneMore : List ℕ → List (List ℕ × ℕ) → List (List ℕ × ℕ) → Type 0
HasOneMore path old new = (q : List ℕ) → count_at q new ≡ count_at q old + cond (bytes_eq path q) 1 0

-- and once less, where it was counted
abbrev pub HasOneLess : List ℕ → List (List ℕ × ℕ) → List (List ℕ × ℕ) → Type 0
HasOneLess path old new = (q : List ℕ) → count_at q new ≡ count_at q old - cond (bytes_eq path q) 1 0

abbrev pub HasSameCounts : List (List ℕ × ℕ) → List (List ℕ × ℕ) → Type 0
HasSameCounts old new = (q : List ℕ) → count_at q new ≡ count_at q old

-- ---- labels

-- whether a label of a record names what is of a class at a path, and is not the record itself
abbrev pub is_named_by : List ℕ → List ℕ → Recorded → Label → Bool
is_named_by class path r l = is_class_at class path l.path l.class && not (is_recorded_at class path r)

-- how many of these labels of a record do
abbrev pub names_among : List Label → List ℕ → List ℕ → Recorded → ℕ
names_among labels class path r = count_by (is_named_by class path r) labels

abbrev pub names_of : List ℕ → List ℕ → Recorded → ℕ
names_of class path r = names_among r.labels class path r

-- each path under each class is counted so much more often
abbrev pub HasMoreNames : (List ℕ → List ℕ → ℕ) → List (List ℕ × List (List ℕ × ℕ)) → List (List ℕ × List (List ℕ × ℕ)) → Type 0
HasMoreNames more old new = (class path : List ℕ) → count_under class path new ≡ count_under class path old + more class path

-- and so much less
abbrev pub HasLessNames : (List ℕ → List ℕ → ℕ) → List (List ℕ × List (List ℕ × ℕ)) → List (List ℕ × List (List ℕ × ℕ)) → Type 0
HasLessNames less old new = (class path : List ℕ) → count_under class path new ≡ count_under class path old - less class path

abbrev pub HasSameNames : List (List ℕ × List (List ℕ × ℕ)) → List (List ℕ × List (List ℕ × ℕ)) → Type 0
HasSameNames old new = (class path : List ℕ) → count_under class path new ≡ count_under class path old

-- once for a label, unless it is that of the record itself
abbrev pub once_for : Recorded → Label → List ℕ → List ℕ → ℕ
once_for r l class path = cond (is_named_by class path r l) 1 0

-- once for a path under a class
abbrev pub once_under : List ℕ → List ℕ → List ℕ → List ℕ → ℕ
once_under own_class own_path class path = cond (bytes_eq own_class class && bytes_eq own_path path) 1 0

-- ---- records

-- how many labels of records name what is of a class at a path, and is not the record itself
abbrev pub names_in : List ℕ → List ℕ → List Recorded → ℕ
names_in class path records = sum_by (names_of class path) records
