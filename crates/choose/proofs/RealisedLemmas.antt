-- Whether a record of a class is on desks.
use Rattle.std.proofs.Common.{◌≡◌, ℕ, ◌<◌, ◌≤◌, Bool, true, false, inl, inr, refl, sym, ◌∙◌, ap, List, [], ◌∷◌, length, arith}
use Rattle.std.specs.Prelude.{◌||◌, map, filter}
use Rattle.std.specs.List.{list_any}
use Rattle.std.specs.Borrow.{Bor}
use Rattle.std.proofs.lemmas.List.Folds.{list_any-append}
use Rattle.model.specs.Worlds.{Source}
use Rattle.model.specs.Choices.{is_of}
use Rattle.model.specs.Outlooks.{is_realised}
use Rattle.model.proofs.BoolLemmas.{either}
use Rattle.records.specs.Recorded.{Recorded}
use Rattle.records.specs.Trees.{record_at}
use Rattle.desk_records.specs.RecordLists.{is_record_of}
use Rattle.realise.specs.Holdings.{Holdings, records_of}
use Rattle.choose.specs.Visible.{Visible, seen, desks_of, is_realised_on}

-- ---- one desk

some_of : (class : List ℕ) (records : List Recorded) → 0 < length (filter (is_record_of class) records) → list_any (is_record_of class) records ≡ true
some_of class [] more = absurd (omega (arith, more))
some_of class (r ∷ records) more = elim (either (is_record_of class r)) [
  | inl t ↦ rw t refl
  | inr f ↦ rw f (some_of class records (rw f at more))
]

none_of : (class : List ℕ) (records : List Recorded) → length (filter (is_record_of class) records) ≤ 0 → list_any (is_record_of class) records ≡ false
none_of class [] none = refl
none_of class (r ∷ records) none = elim (either (is_record_of class r)) [
  | inl t ↦ absurd (let no : length (r ∷ filter (is_record_of class) records) ≤ 0 = rw t at none in omega (arith, no))
  | inr f ↦ rw f (none_of class records (rw f at none))
]

module _ (class : List ℕ) (d : Bor Holdings) (found : List Recorded) (count : ℕ) (is : found ≡ records_of class d.now) (counted : count ≡ length found) where
  pub found_on : 0 < count → is_realised_on class d.now ≡ true
  found_on more = some_of class d.now.records (let n = counted ∙ ap length is in rw n at more)

  pub absent_on : count ≤ 0 → is_realised_on class d.now ≡ false
  absent_on none = none_of class d.now.records (let n = counted ∙ ap length is in rw n at none)

-- ---- several desks

-- it is found on the next one, or is not
pub found_next : (class : List ℕ) (d : Bor Holdings) (ds es : List (Bor Holdings)) → es ≡ d ∷ ds → is_realised_on class d.now ≡ true
    → true ≡ list_any (is_realised_on class) (desks_of es)
found_next class d ds es e t = rw (e, t) refl

pub absent_next : (class : List ℕ) (d : Bor Holdings) (ds es : List (Bor Holdings)) → es ≡ d ∷ ds → is_realised_on class d.now ≡ false
    → list_any (is_realised_on class) (desks_of ds) ≡ list_any (is_realised_on class) (desks_of es)
absent_next class d ds es e f = rw (e, f) refl

-- ---- records with their trees

on_desk : (table : List Source) (class : List ℕ) (records : List Recorded)
    → list_any (is_of class) (map (record_at table) records) ≡ list_any (is_record_of class) records
on_desk table class [] = refl
on_desk table class (r ∷ records) = ap (λ rest. is_record_of class r || rest) (on_desk table class records)

pub realised_seen : (table : List Source) (class : List ℕ) (desks : List Holdings)
    → list_any (is_realised_on class) desks ≡ is_realised (seen table desks).records class
realised_seen table class [] = refl
realised_seen table class (d ∷ desks) =
    (λ i. sym (on_desk table class d.records) i || realised_seen table class desks i)
    ∙ sym (list_any-append (is_of class) (map (record_at table) d.records) (seen table desks).records)

pub realised_in : (view : Visible) (table : List Source) (inside desks : List (Bor Holdings)) (class : List ℕ) (b : Bool) → seen table (desks_of inside) ≡ view
    → desks ≡ inside → b ≡ list_any (is_realised_on class) (desks_of desks) → b ≡ is_realised view.records class
realised_in view table inside desks class b is same found =
    found ∙ ap (λ ds. list_any (is_realised_on class) (desks_of ds)) same ∙ realised_seen table class (desks_of inside)
    ∙ ap (λ (v : Visible). is_realised v.records class) is
