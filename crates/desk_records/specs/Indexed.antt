-- The tables by which a desk finds its records.
use Rattle.std.specs.Prelude.{◌≡◌, ℕ, ◌-◌, List, [], ◌∷◌, ◌++◌, Bool, length, take, filter, bytes_eq, unwrap_or, if◌then◌else◌}
use Rattle.std.specs.Map.{lookup, remove_entry}
use Rattle.records.specs.Recorded.{Recorded}
use Rattle.desk_records.specs.Counted.{count_under, names_in, names_of, HasMoreNames, HasLessNames, HasSameNames}
use Rattle.desk_records.specs.Numbers.{AscendByNumber, is_number, without_numbers}
use Rattle.desk_records.specs.RecordLists.{is_record_of}

-- all but the last
abbrev pub without_last : List Recorded → List Recorded
without_last records = take (length records - 1) records

-- ---- groups of records with numbers

abbrev pub Groups : Type 0
Groups = List (List ℕ × List (ℕ × Recorded))

-- the records of a group: none where there is none
abbrev pub group_at : List ℕ → Groups → List (ℕ × Recorded)
group_at key groups = unwrap_or (lookup (bytes_eq key) groups) []

-- one record more is in its group, and no other group has changed
abbrev pub IsGrouped : List ℕ → ℕ × Recorded → Groups → Groups → Type 0
IsGrouped key e old new = (k : List ℕ) → group_at k new ≡ (if bytes_eq key k then group_at k old ++ e ∷ [] else group_at k old)

-- the record of a number is gone from a group, and no other group has changed
abbrev pub IsUngrouped : List ℕ → ℕ → Groups → Groups → Type 0
IsUngrouped key number old new =
    (k : List ℕ) → group_at k new ≡ (if bytes_eq key k then remove_entry (is_number number) (group_at k old) else group_at k old)

abbrev pub HasSameGroups : Groups → Groups → Type 0
HasSameGroups old new = (k : List ℕ) → group_at k new ≡ group_at k old

-- ---- all tables

-- whether a record is at a path
abbrev pub is_record_at : List ℕ → Recorded → Bool
is_record_at path r = bytes_eq r.path path

-- the groups by class and by path, and how many labels name each path under each class
pub record Tables : Type 0 where
  pub by_class : Groups
  pub by_path : Groups
  pub named : List (List ℕ × List (List ℕ × ℕ))

-- each group has the records that it is the group of
abbrev pub AreGroups : (List ℕ → Recorded → Bool) → Groups → List (ℕ × Recorded) → Type 0
AreGroups is_of groups numbered = (key : List ℕ) → group_at key groups ≡ filter (λ e. is_of key e.1) numbered

-- these are the tables of records
pub record AreTabled (tables : Tables) (numbered : List (ℕ × Recorded)) : Type 0 where
  pub by_class : AreGroups is_record_of tables.by_class numbered
  pub by_path : AreGroups is_record_at tables.by_path numbered
  pub named : (class path : List ℕ) → count_under class path tables.named ≡ names_in class path (without_numbers numbered)

-- their numbers ascend, and these are the tables of them
pub record AreInOrder (tables : Tables) (numbered : List (ℕ × Recorded)) : Type 0 where
  pub tabled : AreTabled tables numbered
  pub ascending : AscendByNumber numbered

-- a record is listed besides, under a number
pub record HasListed (number : ℕ) (r : Recorded) (old new : Tables) : Type 0 where
  pub by_class : IsGrouped r.class.path (number, r) old.by_class new.by_class
  pub by_path : IsGrouped r.path (number, r) old.by_path new.by_path
  pub named : HasMoreNames (λ class path. names_of class path r) old.named new.named

-- it is listed no longer
pub record HasUnlisted (number : ℕ) (r : Recorded) (old new : Tables) : Type 0 where
  pub by_class : IsUngrouped r.class.path number old.by_class new.by_class
  pub by_path : IsUngrouped r.path number old.by_path new.by_path
  pub named : HasLessNames (λ class path. names_of class path r) old.named new.named

pub record HasSameTables (old new : Tables) : Type 0 where
  pub by_class : HasSameGroups old.by_class new.by_class
  pub by_path : HasSameGroups old.by_path new.by_path
  pub named : HasSameNames old.named new.named
