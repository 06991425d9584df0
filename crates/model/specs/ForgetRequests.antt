-- Forgetting what was built: the records of a class at a path are taken from the desk, if nothing there needs them.
use Rattle.std.specs.Prelude.{ℕ, Bool, false, ◌&&◌, ◌||◌, not, if◌then◌else◌, List, map, filter, bytes_eq, Option, Some, None}
use Rattle.std.specs.List.{list_any}
use Rattle.model.specs.declared.refusal.Refusal.TheVariants.{NotHeld, InUse}
use Rattle.model.specs.Classes.{Class}
use Rattle.model.specs.Worlds.{Record, Entry, OfSource, OfRecord, Resolved, Waiting, Goal, Desk}
use Rattle.model.specs.Goals.{in_status, as_seen, is_building}
use Rattle.model.specs.FinishedBuilds.{is_record_at}
use Rattle.model.specs.Replies as replies
use Rattle.model.specs.Outcomes.{Observation, Outcome, becomes, check}

-- ---- what needs a record

-- whether a path with this class is the record of a class at a path
abbrev pub is_class_at : List ℕ → List ℕ → List ℕ → Option Class → Bool
is_class_at class path other None = false
is_class_at class path other (Some c) = bytes_eq c.path class && bytes_eq other path

-- whether a record has a label of it
abbrev pub refers_to_class : List ℕ → List ℕ → Record → Bool
refers_to_class class path r = list_any (λ l. is_class_at class path l.path l.class) r.labels

-- whether a closure has it
abbrev pub is_entry_at : List ℕ → List ℕ → Entry → Bool
is_entry_at class path (OfSource s) = false
is_entry_at class path (OfRecord r) = is_record_at class path r

-- whether what a goal is built from has it
abbrev pub is_built_from : List ℕ → List ℕ → Option Resolved → Bool
is_built_from class path None = false
is_built_from class path (Some r) = list_any (is_entry_at class path) r.closure

-- whether a goal is built from it, as its user sees
abbrev pub builds_with : (List ℕ → Bool) → List ℕ → List ℕ → Goal → Bool
builds_with reach class path g = is_building (as_seen reach g.status) && is_built_from class path g.resolved

-- ---- what comes of it

-- the records that remain
abbrev pub remaining : List ℕ → List ℕ → List Record → List Record
remaining class path records = filter (λ r. not (is_record_at class path r)) records

-- a goal that is stored as built from it waits
abbrev pub let_go : List ℕ → List ℕ → Goal → Goal
let_go class path g = if is_building g.status && is_built_from class path g.resolved then in_status Waiting g else g

-- a desk without the records of a class at a path
abbrev pub without_records : List ℕ → List ℕ → Desk → Desk
without_records class path d = record d { records = remaining class path d.records; goals = map (let_go class path) d.goals }

-- whether a record that remains refers to it, or a goal is built from it
abbrev pub is_in_use : Observation → List ℕ → List ℕ → Bool
is_in_use s class path =
    list_any (refers_to_class class path) (remaining class path s.desk.records) || list_any (builds_with s.reach class path) s.desk.goals

abbrev pub forget : Observation → List ℕ → List ℕ → Outcome
forget s class path =
    check NotHeld (list_any (is_record_at class path) s.desk.records)
    (check InUse (not (is_in_use s class path)) (becomes (without_records class path s.desk) replies.Ok))
