-- What contracts see of a desk, and of what is put on it.
use Rattle.std.specs.Prelude.{◌≡◌, ℕ, ◌<◌, ◌^◌, Bool, true, false, ◌&&◌, List, [], ◌∷◌, ◌++◌, ◌+◌, ◌-◌, nat_lt, nat_le, length, map, filter, sum_by, bytes_eq, All, Option, Some, None, if◌then◌else◌}
use Rattle.std.specs.List.{list_any}
use Rattle.model.specs.Classes.{Class, Admission, Known, is_one_of}
use Rattle.model.specs.Worlds.{Pin, are_distinct}
use Rattle.model.specs.Limits.{most_sources, most_records}
use Rattle.records.specs.Recorded.{Recorded, same_recorded}
use Rattle.records.specs.DeskEntries.{entry_path}
use Rattle.records.specs.declared.desk_entry.DeskEntry.{DeskEntry}
use Rattle.records.specs.declared.desk_entry.DeskEntry.TheVariants as entry
use Rattle.desk_records.specs.RecordLists.{is_record_of, remaining, refers_to}
use Rattle.realise.specs.Held.{with_archive, without_archive, bytes_at}

-- ---- desks

-- what a desk knows, its records, its pins, the paths that it holds, each once, with the bytes of their archives, and the charge of what it holds in bytes
pub record Holdings : Type 0 where
  pub known : Known
  pub records : List Recorded
  pub pins : List Pin
  pub archives : List (List ℕ × ℕ)
  pub charge : ℕ

-- the paths that a desk holds, those of its sources and of its records
abbrev pub paths_of : Holdings → List (List ℕ)
paths_of d = d.known.sources ++ map (λ r. r.path) d.records

-- the records of a class
abbrev pub records_of : List ℕ → Holdings → List Recorded
records_of class d = filter (is_record_of class) d.records

-- a desk with one derivation more
abbrev pub holds_derivation : Admission → Holdings → Holdings
holds_derivation a d = record d { known = record d.known { derivations = d.known.derivations ++ a ∷ [] } }

-- a desk with other pins
abbrev pub with_pins : List Pin → Holdings → Holdings
with_pins pins d = record d { pins = pins }

-- ---- what is forgotten

-- whether a record that remains has such a label
abbrev pub is_needed : List ℕ → List ℕ → Holdings → Bool
is_needed class path d = list_any (refers_to class path) (remaining class path d.records)

-- whether a source, or a record that remains, is at the path
abbrev pub stays_held : List ℕ → List ℕ → Holdings → Bool
stays_held class path d = is_one_of (d.known.sources ++ map (λ r. r.path) (remaining class path d.records)) path

-- a desk without the records of a class at a path: where nothing else is at the path, it is held and charged no longer
abbrev pub without_records : List ℕ → List ℕ → Holdings → Holdings
without_records class path d = record d {
  records = remaining class path d.records;
  archives = if stays_held class path d then d.archives else without_archive path d.archives;
  charge = d.charge - (if stays_held class path d then 0 else bytes_at path d.archives);
}

-- ---- entries

-- whether an entry is on a desk
abbrev pub is_on : DeskEntry → Holdings → Bool
is_on (entry.Source path) d = is_one_of d.known.sources path
is_on (entry.Record r) d = list_any (λ q. same_recorded q r) d.records

-- what a desk is charged more for a path whose archive has so many bytes
abbrev pub charged_more : List ℕ → ℕ → Holdings → ℕ
charged_more path archive d = if is_one_of (paths_of d) path then 0 else archive

-- a desk with one entry more, whose archive has so many bytes: they are charged unless its path is held
abbrev pub holds_entry : DeskEntry → ℕ → Holdings → Holdings
holds_entry (entry.Source path) archive d = record d {
  known = record d.known { sources = d.known.sources ++ path ∷ [] };
  archives = with_archive (path, archive) d.archives;
  charge = d.charge + charged_more path archive d;
}
holds_entry (entry.Record r) archive d = record d {
  records = d.records ++ r ∷ [];
  archives = with_archive (r.path, archive) d.archives;
  charge = d.charge + charged_more r.path archive d;
}

-- what is known, and the records, with one entry more
abbrev pub known_with : DeskEntry → Known → Known
known_with (entry.Source path) known = record known { sources = known.sources ++ path ∷ [] }
known_with (entry.Record r) known = known

abbrev pub records_with : DeskEntry → List Recorded → List Recorded
records_with (entry.Source path) records = records
records_with (entry.Record r) records = records ++ r ∷ []

-- a source that is not known yet; of a record nothing is asked
abbrev pub IsNewSource : DeskEntry → Known → Type 0
IsNewSource (entry.Source path) known = is_one_of known.sources path ≡ false
IsNewSource (entry.Record r) known = Unit {0}

-- whether a desk may have one such entry more
abbrev pub has_place : DeskEntry → Holdings → Bool
has_place (entry.Source path) d = nat_lt (length d.known.sources) most_sources
has_place (entry.Record r) d = nat_lt (length d.records) most_records

-- whether a desk may have one such entry more, and be charged so many bytes more
abbrev pub is_roomy : DeskEntry → ℕ → ℕ → Holdings → Bool
is_roomy e more limit d = has_place e d && nat_le (d.charge + more) limit

-- ---- several entries

-- what a desk is charged more for entries whose archives have so many bytes, one after another
abbrev pub charged_all : List (DeskEntry × ℕ) → Holdings → ℕ
charged_all [] d = 0
charged_all (e ∷ es) d = charged_more (entry_path e.0) e.1 d + charged_all es (holds_entry e.0 e.1 d)

-- a desk with these entries more, one after another
abbrev pub holds_each : List (DeskEntry × ℕ) → Holdings → Holdings
holds_each [] d = d
holds_each (e ∷ es) d = holds_each es (holds_entry e.0 e.1 d)

-- the archives have fewer bytes together than can be counted
abbrev pub AreCountable : List (DeskEntry × ℕ) → Type 0
AreCountable entries = sum_by (λ e. e.1) entries < 2 ^ 64

-- the sources among entries, and the records
abbrev pub sources_in : List DeskEntry → List (List ℕ)
sources_in [] = []
sources_in (entry.Source path ∷ es) = path ∷ sources_in es
sources_in (entry.Record r ∷ es) = sources_in es

abbrev pub records_in : List DeskEntry → List Recorded
records_in [] = []
records_in (entry.Source path ∷ es) = records_in es
records_in (entry.Record r ∷ es) = r ∷ records_in es

-- entries without the bytes of their archives
abbrev pub bare : List (DeskEntry × ℕ) → List DeskEntry
bare entries = map (λ e. e.0) entries

-- the path of an entry, with the bytes of its archive
abbrev pub archive_of : DeskEntry × ℕ → List ℕ × ℕ
archive_of e = (entry_path e.0, e.1)

-- these paths are the sources among entries, these records their records, and these archives those of all
pub record AreParts (entries : List (DeskEntry × ℕ)) (paths : List (List ℕ)) (records : List Recorded) (archives : List (List ℕ × ℕ)) : Type 0 where
  pub paths_are : paths ≡ sources_in (bare entries)
  pub records_are : records ≡ records_in (bare entries)
  pub archives_are : archives ≡ map archive_of entries

-- none of the entries is on a desk, and no source comes twice
pub record AreAbsent (entries : List DeskEntry) (d : Holdings) : Type 0 where
  pub absent : All (λ e. is_on e d ≡ false) entries
  pub distinct : are_distinct (sources_in entries) ≡ true

-- ---- closed desks

-- whether a record is of a class and at a path
abbrev pub is_at : List ℕ → Class → Recorded → Bool
is_at path class r = bytes_eq r.path path && bytes_eq r.class.path class.path

-- whether a desk has what a path is labelled with: a record of the class at the path or, with none, the source
abbrev pub has_labelled : Holdings → List ℕ → Option Class → Bool
has_labelled d path None = is_one_of d.known.sources path
has_labelled d path (Some class) = list_any (is_at path class) d.records

-- all that the labels of a record name is on a desk
abbrev pub IsClosedWith : Holdings → Recorded → Type 0
IsClosedWith d r = All (λ l. has_labelled d l.path l.class ≡ true) r.labels

-- and what the labels of an entry name; a source has none
abbrev pub IsClosedWithEntry : Holdings → DeskEntry → Type 0
IsClosedWithEntry d (entry.Source path) = Unit {0}
IsClosedWithEntry d (entry.Record r) = IsClosedWith d r

-- a desk has all that the labels of its records name
abbrev pub IsClosed : Holdings → Type 0
IsClosed d = All (IsClosedWith d) d.records
