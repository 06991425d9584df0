-- What is visible on desks, with the trees of the one table.
use Rattle.std.specs.Prelude.{◌≡◌, ℕ, Bool, true, false, List, ◌++◌, map, filter, flat_map, bytes_eq, is_some, All, Contains, Option, Some, None, Result}
use Rattle.std.specs.Borrow.{Bor}
use Rattle.std.specs.List.{list_any}
use Rattle.std.specs.Option.{option_or}
use Rattle.model.specs.declared.refusal.Refusal.{Refusal}
use Rattle.model.specs.Archives.{bytes_before}
use Rattle.model.specs.Classes.{is_one_of}
use Rattle.model.specs.Worlds.{Source, Label, Record, Desk, Pin, tree_at}
use Rattle.model.specs.Orders.{first_by, list_before, least}
use Rattle.model.specs.Choices.{visible_records, visible_sources, label_before, choose_among, source_among, sources_below, Plan, plan_by}
use Rattle.records.specs.Recorded.{Recorded}
use Rattle.records.specs.Trees.{source_at, record_at}
use Rattle.desk_records.specs.RecordLists.{is_record_of}
use Rattle.realise.specs.Holdings.{Holdings, IsClosed, paths_of, records_of}

-- ---- what is visible

-- all that choices look at
pub record Visible : Type 0 where
  pub records : List Record
  pub sources : List Source

-- what is visible to one who sees these desks
abbrev pub visible_on : List Desk → Visible
visible_on view = record { records = visible_records view; sources = visible_sources view }

-- what is visible on desks whose trees a table has
abbrev pub seen : List Source → List Holdings → Visible
seen table desks = record {
  records = flat_map (λ d. map (record_at table) d.records) desks;
  sources = flat_map (λ d. map (source_at table) d.known.sources) desks;
}

abbrev pub desks_of : List (Bor Holdings) → List Holdings
desks_of desks = map (λ d. d.now) desks

-- a table has a tree at a path
abbrev pub IsStored : List Source → List ℕ → Type 0
IsStored table path = is_some (tree_at path table) ≡ true

-- at all paths of a desk
abbrev pub IsDeskStored : List Source → Holdings → Type 0
IsDeskStored table d = All (IsStored table) (paths_of d)

-- at all paths of desks
abbrev pub AreStored : List Source → List Holdings → Type 0
AreStored table desks = All (IsDeskStored table) desks

-- nothing is missing: the table has a tree at all paths of desks, and each desk has all that the labels of its records name
pub record IsComplete (table : List Source) (desks : List Holdings) : Type 0 where
  pub stored : AreStored table desks
  pub closed : All IsClosed desks

-- ---- choices among what is visible

abbrev pub choose_in : Visible → List Pin → List ℕ → Option Record
choose_in view pins class = choose_among view.records pins class

abbrev pub source_in : Visible → List ℕ → Option Source
source_in view path = source_among view.sources path

abbrev pub plan_in : Visible → List Pin → List (List ℕ) → List (List ℕ) → Result Plan Refusal
plan_in view pins classes sources = plan_by view.records view.sources (choose_in view pins) classes sources

-- each path that one of these records labels as that of a source is that of a visible source
abbrev pub SeesSourcesOf : Visible → List Record → Type 0
SeesSourcesOf view records = (r : Record) (path : List ℕ) → Contains records r → Contains (sources_below r) path → is_some (source_in view path) ≡ true

-- each that a visible record labels so
abbrev pub SeesSourcesIn : Visible → Type 0
SeesSourcesIn view = SeesSourcesOf view view.records

-- the paths of visible records and of visible sources
abbrev pub paths_in : Visible → List (List ℕ)
paths_in view = map (λ r. r.path) view.records ++ map (λ s. s.path) view.sources

-- each path that a visible record labels is among them
abbrev pub LabelsAreVisible : Visible → Type 0
LabelsAreVisible view = (r : Record) (l : Label) → Contains view.records r → Contains r.labels l → Contains (paths_in view) l.path

-- a path is that of a source on a desk
abbrev pub is_source_on : List ℕ → Holdings → Bool
is_source_on path d = is_one_of d.known.sources path

-- ---- records, whose trees are not looked at

-- a record of a class is on a desk
abbrev pub is_realised_on : List ℕ → Holdings → Bool
is_realised_on class d = list_any (is_record_of class) d.records

-- by path, then by labels
abbrev pub recorded_before : Recorded → Recorded → Bool
recorded_before = first_by (λ q r. bytes_before q.path r.path) (λ q r. list_before label_before q.labels r.labels)

abbrev pub is_recorded_at : List ℕ → Recorded → Bool
is_recorded_at path r = bytes_eq r.path path

-- the records of a class on desks
abbrev pub records_on : List ℕ → List Holdings → List Recorded
records_on class desks = flat_map (records_of class) desks

abbrev pub is_recorded_pinned : Option (List ℕ) → Recorded → Bool
is_recorded_pinned None r = false
is_recorded_pinned (Some path) r = is_recorded_at path r

-- whether a record is at a path, if one is given
abbrev pub is_any_or_at : Option (List ℕ) → Recorded → Bool
is_any_or_at None r = true
is_any_or_at (Some path) r = is_recorded_at path r

-- those at a path, if one is given, those with the pinned path, and those of a class on desks
abbrev pub those_at : Option (List ℕ) → List Recorded → List Recorded
those_at path rs = filter (is_any_or_at path) rs

abbrev pub pinned_at : Option (List ℕ) → List Recorded → List Recorded
pinned_at pin rs = filter (is_recorded_pinned pin) rs

abbrev pub of_class : List ℕ → List (Bor Holdings) → List Recorded
of_class class desks = records_on class (desks_of desks)

-- the least with the pinned path or, where none has it, the least of all
abbrev pub choose_recorded : Option (List ℕ) → List Recorded → Option Recorded
choose_recorded pin rs = option_or (least recorded_before (pinned_at pin rs)) (least recorded_before rs)
