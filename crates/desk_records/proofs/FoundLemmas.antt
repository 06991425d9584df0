-- Records sought among some of them.
use Rattle.std.proofs.Common.{◌≡◌, ℕ, Bool, true, inl, inr, List, [], ◌∷◌, map, length, refl, suc, arith}
use Rattle.std.specs.Prelude.{filter, bytes_eq, ◌&&◌, nat_lt}
use Rattle.std.specs.List.{list_any}
use Rattle.std.specs.Cmp.Lexicographic.{pointwise}
use Rattle.std.proofs.lemmas.Bool.Decides.{nat_tests}
use Rattle.model.specs.Classes.{is_one_of}
use Rattle.model.specs.Worlds.{same_label}
use Rattle.model.proofs.BoolLemmas.{either, both_parts}
use Rattle.records.specs.Recorded.{Recorded, same_recorded}
use Rattle.desk_records.specs.RecordLists.{is_record_of}
use Rattle.desk_records.specs.Indexed.{is_record_at}

-- what passes one test only where it passes another is sought among those that pass the other
pub found_among : (test group : Recorded → Bool) (records : List Recorded) → ((q : Recorded) → test q ≡ true → group q ≡ true)
    → list_any test (filter group records) ≡ list_any test records
found_among test group [] within = refl
found_among test group (q ∷ records) within = elim (either (group q)) [
  | inl t ↦ rw (t, found_among test group records within) refl
  | inr f ↦ elim (either (test q)) [
    | inl t ↦ let in_group = within q t in cc
    | inr g ↦ rw (f, g) (found_among test group records within)
  ]
]

-- a record is sought among those of its class
pub found_in_group : (r : Recorded) (records : List Recorded)
    → list_any (λ q. same_recorded q r) (filter (is_record_of r.class.path) records) ≡ list_any (λ q. same_recorded q r) records
found_in_group r records =
    found_among (λ q. same_recorded q r) (is_record_of r.class.path) records
    (λ q same. (both_parts (bytes_eq q.class.path r.class.path) (bytes_eq q.path r.path && pointwise same_label q.labels r.labels) same).0)

-- and among those at its path
pub found_at_path : (r : Recorded) (records : List Recorded)
    → list_any (λ q. same_recorded q r) (filter (is_record_at r.path) records) ≡ list_any (λ q. same_recorded q r) records
found_at_path r records =
    found_among (λ q. same_recorded q r) (is_record_at r.path) records
    (λ q same. (both_parts (bytes_eq q.path r.path) (pointwise same_label q.labels r.labels)
    (both_parts (bytes_eq q.class.path r.class.path) (bytes_eq q.path r.path && pointwise same_label q.labels r.labels) same).1).0)

not_none : (n : ℕ) → nat_lt 0 (suc n) ≡ true
not_none n = grind (arith, nat_tests)

-- there are some at a path where one of all is
pub some_at_path : (path : List ℕ) (records : List Recorded)
    → nat_lt 0 (length (filter (is_record_at path) records)) ≡ is_one_of (map (λ r. r.path) records) path
some_at_path path [] = refl
some_at_path path (r ∷ records) = elim (either (is_record_at path r)) [
  | inl t ↦ rw t (not_none (length (filter (is_record_at path) records)))
  | inr f ↦ rw f (some_at_path path records)
]
