-- Entries with that of a record more, and a desk to which they are copied.
use Rattle.std.proofs.Common.{◌≡◌, ℕ, ◌+◌, ◌≤◌, Bool, true, false, inl, inr, List, [], ◌∷◌, ◌++◌, length, refl, sym, ◌∙◌, ap, subst, arith, append-nil}
use Rattle.std.specs.Prelude.{All, Any, Contains, map, bytes_eq, nat_le, ◌||◌, if◌then◌else◌}
use Rattle.std.specs.List.{list_any}
use Rattle.std.specs.Cmp.Lexicographic.{pointwise, lists_per}
use Rattle.std.proofs.lemmas.List.{length-append}
use Rattle.std.proofs.lemmas.List.Folds.{list_any-append}
use Rattle.std.proofs.lemmas.Bool.Decides.{nat_tests}
use Rattle.std.proofs.lemmas.Bool.{or_left, or_right, and_from}
use Rattle.model.specs.Limits.{most_sources, most_records}
use Rattle.model.specs.Worlds.{Source, Record, Desk, OfSource, OfRecord, path_of_entry, are_distinct, is_within, same_label, same_record, has_record, with_record, has_entry, with_entry, with_all, missing, with_entries}
use Rattle.model.specs.Worlds as worlds
use Rattle.model.specs.Closures.{class_of_entry, labels_of_entry, path_of_class}
use Rattle.model.proofs.BoolLemmas.{either, same_bytes, bytes_same, or_cases, both_parts}
use Rattle.laws.proofs.MemberLemmas.{in_of, contains_of, any_of, in_left, in_append}
use Rattle.records.specs.LabelLaws.{same_label_laws}
use Rattle.records.specs.declared.desk_entry.DeskEntry.{DeskEntry}
use Rattle.records.specs.ClosureEntries.{is_entry_of}
use Rattle.realise.specs.Holdings.{Holdings, is_on, charged_all, sources_in, records_in, holds_entry}
use Rattle.store.specs.Stored.{Extends}
use Rattle.handlers.specs.Sound.{IsClosure, desk_of, IsSound, Beside}
use Rattle.handlers.specs.Taking.{entry_without, counted, missing_on, are_roomy, AreCopyable, IsLabelledBy, has_built, with_built}
use Rattle.handlers.proofs.MissingLemmas.{bare_entries, closure_copyable}
use Rattle.handlers.proofs.CopyLemmas.{IsThereFor, desk_copied, within_copied}

-- ---- what may be copied together

-- an entry is labelled by more entries too
any_left : (P : worlds.Entry → Type 0) (xs ys : List worlds.Entry) → Any P xs → Any P (xs ++ ys)
any_left P xs ys w = any_of P (xs ++ ys) w.1 (in_left w.1 xs ys (in_of xs w.1 (w.0, w.2, w.3))) w.4

no_source_more : (es : List worlds.Entry) (r : Record) → sources_in (bare_entries (es ++ OfRecord r ∷ [])) ≡ sources_in (bare_entries es)
no_source_more [] r = refl
no_source_more (OfSource s ∷ es) r = ap (λ paths. s.path ∷ paths) (no_source_more es r)
no_source_more (OfRecord q ∷ es) r = no_source_more es r

pub built_copyable : (entries : List worlds.Entry) (r : Record) → IsClosure entries → IsLabelledBy entries r → AreCopyable (with_built entries r)
built_copyable entries r closure labelled = elim (either (has_built entries r)) [
  | inl t ↦ rw t (closure_copyable entries closure)
  | inr f ↦ rw f (record {
    labelled = λ a l inside of.
        let P : worlds.Entry → Type 0 = λ e. (path_of_entry e ≡ l.path) × (path_of_class (class_of_entry e) ≡ path_of_class l.class) in
        any_left P entries (OfRecord r ∷ []) (elim (in_append a entries (OfRecord r ∷ []) (in_of (entries ++ OfRecord r ∷ []) a inside)) [
          | inl own ↦ closure.whole.labelled a l (contains_of entries a own) of
          | inr last ↦ elim last [
            | inl is ↦ labelled l (subst (λ e. Contains (labels_of_entry e) l) (sym is) of)
            | inr none ↦ absurd none
          ]
        ]);
    distinct = ap are_distinct (no_source_more entries r) ∙ (closure_copyable entries closure).distinct;
    few = (let few = closure.few in let one = length-append entries (OfRecord r ∷ []) in omega (arith, few, one));
  })
]

-- ---- the desk with them

-- records that are the same as a third are the same
same_record-trans : (a b c : Record) → same_record a b ≡ true → same_record b c ≡ true → same_record a c ≡ true
same_record-trans a b c ab bc =
    let first = both_parts (bytes_eq a.class.path b.class.path) _ ab in
    let second = both_parts (bytes_eq b.class.path c.class.path) _ bc in
    let first_rest = both_parts (bytes_eq a.path b.path) (pointwise same_label a.labels b.labels) first.1 in
    let second_rest = both_parts (bytes_eq b.path c.path) (pointwise same_label b.labels c.labels) second.1 in
    let class : a.class.path ≡ c.class.path = same_bytes a.class.path b.class.path first.0 ∙ same_bytes b.class.path c.class.path second.0 in
    let path : a.path ≡ c.path = same_bytes a.path b.path first_rest.0 ∙ same_bytes b.path c.path second_rest.0 in
    and_from (bytes_eq a.class.path c.class.path) _ (ap (λ p. bytes_eq p c.class.path) class ∙ bytes_same c.class.path)
    (and_from (bytes_eq a.path c.path) _ (ap (λ p. bytes_eq p c.path) path ∙ bytes_same c.path)
    ((lists_per same_label_laws).trans a.labels b.labels c.labels first_rest.1 second_rest.1))

-- a record that is the same as one that a desk has is there
has_same : (records : List Record) (a b : Record) → list_any (λ x. same_record x a) records ≡ true → same_record a b ≡ true
    → list_any (λ x. same_record x b) records ≡ true
has_same [] a b has same = cc
has_same (x ∷ records) a b has same = elim (or_cases (same_record x a) (list_any (λ y. same_record y a) records) has) [
  | inl t ↦ or_left (same_record x b) _ (same_record-trans x a b t same)
  | inr rest ↦ or_right (same_record x b) _ (has_same records a b rest same)
]

-- whether a desk with entries more has a record
has_record-with_all : (r : Record) (es : List worlds.Entry) (d : Desk) → has_record r (with_all es d) ≡ (has_record r d || has_built es r)
unfolding with_all
has_record-with_all r [] d = (or_nothing (has_record r d))
  where
    or_nothing : (b : Bool) → b ≡ (b || false)
    or_nothing true = refl
    or_nothing false = refl
has_record-with_all r (OfSource s ∷ es) d = has_record-with_all r es (with_entry (OfSource s) d)
has_record-with_all r (OfRecord q ∷ es) d =
    has_record-with_all r es (with_record q d)
    ∙ ap (λ b. b || has_built es r) (list_any-append (λ x. same_record x r) d.records (q ∷ []))
    ∙ regroup (has_record r d) (same_record q r) (has_built es r)
  where
    regroup : (a b c : Bool) → ((a || (b || false)) || c) ≡ (a || (b || c))
    regroup true b c = refl
    regroup false true c = refl
    regroup false false c = refl

-- what is among entries is among those that are missing, or on the desk
among_missing : (r : Record) (entries : List worlds.Entry) (d : Desk) → has_built entries r ≡ true → (has_record r d || has_built (missing entries d) r) ≡ true
among_missing r [] d has = cc
among_missing r (e ∷ entries) d has = elim (or_cases (is_entry_of r e) (has_built entries r) has) [
  | inl t ↦ elim (either (has_entry e d)) [
    | inl there ↦ or_left (has_record r d) _ (on_desk e t there)
    | inr new ↦ rw new (or_right (has_record r d) _ (or_left (is_entry_of r e) _ t))
  ]
  | inr rest ↦ elim (either (has_entry e d)) [
    | inl there ↦ rw there (among_missing r entries d rest)
    | inr new ↦ rw new (moved (has_record r d) (has_built (missing entries d) r) (is_entry_of r e) (among_missing r entries d rest))
  ]
]
  where
    on_desk : (e : worlds.Entry) → is_entry_of r e ≡ true → has_entry e d ≡ true → has_record r d ≡ true
    on_desk (OfSource s) t there = cc
    on_desk (OfRecord q) t there = has_same d.records q r there t

    moved : (a b c : Bool) → (a || b) ≡ true → (a || (c || b)) ≡ true
    moved true b c h = refl
    moved false true true h = refl
    moved false true false h = refl
    moved false false c h = cc

-- those that are missing are among all
missing_among : (r : Record) (entries : List worlds.Entry) (d : Desk) → has_built entries r ≡ false → has_built (missing entries d) r ≡ false
missing_among r [] d none = refl
missing_among r (e ∷ entries) d none =
    let parts = neither (is_entry_of r e) (has_built entries r) none in
    elim (either (has_entry e d)) [
      | inl there ↦ rw there (missing_among r entries d parts.1)
      | inr new ↦ rw (new, parts.0) (missing_among r entries d parts.1)
    ]
  where
    neither : (a b : Bool) → (a || b) ≡ false → (a ≡ false) × (b ≡ false)
    neither true b h = cc
    neither false b h = (refl, h)

with_all-append : (xs ys : List worlds.Entry) (d : Desk) → with_all (xs ++ ys) d ≡ with_all ys (with_all xs d)
unfolding with_all
with_all-append [] ys d = refl
with_all-append (x ∷ xs) ys d = with_all-append xs ys (with_entry x d)

missing-append : (xs ys : List worlds.Entry) (d : Desk) → missing (xs ++ ys) d ≡ missing xs d ++ missing ys d
missing-append [] ys d = refl
missing-append (x ∷ xs) ys d = elim (either (has_entry x d)) [
  | inl t ↦ rw t (missing-append xs ys d)
  | inr f ↦ rw f (ap (λ rest. x ∷ rest) (missing-append xs ys d))
]

-- a desk with a record, unless it has it
abbrev pub with_new_record : Record → Desk → Desk
with_new_record r d = if has_record r d then d else with_record r d

-- a desk to which entries and a record are copied is that to which the entries are copied, with the record more, unless it is there
pub built_entries : (entries : List worlds.Entry) (r : Record) (d : Desk) → with_entries (with_built entries r) d ≡ with_new_record r (with_entries entries d)
unfolding with_all
built_entries entries r d = elim (either (has_built entries r)) [
  | inl t ↦
      let has : has_record r (with_entries entries d) ≡ true = has_record-with_all r (missing entries d) d ∙ among_missing r entries d t in
      rw (t, has) refl
  | inr f ↦
      let none : has_built (missing entries d) r ≡ false = missing_among r entries d f in
      let has : has_record r (with_entries entries d) ≡ has_record r d =
      has_record-with_all r (missing entries d) d ∙ ap (λ b. has_record r d || b) none ∙ or_nothing (has_record r d) in
      let split : with_entries (entries ++ OfRecord r ∷ []) d ≡ with_all (missing (OfRecord r ∷ []) d) (with_entries entries d) =
      ap (λ es. with_all es d) (missing-append entries (OfRecord r ∷ []) d) ∙ with_all-append (missing entries d) (missing (OfRecord r ∷ []) d) d in
      elim (either (has_record r d)) [
        | inl there ↦ rw (f, has, there) (rw there at split)
        | inr new ↦ rw (f, has, new) (rw new at split)
      ]
]
  where
    or_nothing : (b : Bool) → (b || false) ≡ b
    or_nothing true = refl
    or_nothing false = refl

-- ---- room

missing_on-append : (d : Holdings) (xs ys : List worlds.Entry) → missing_on d (xs ++ ys) ≡ missing_on d xs ++ missing_on d ys
missing_on-append d [] ys = refl
missing_on-append d (x ∷ xs) ys = elim (either (is_on (entry_without x) d)) [
  | inl t ↦ rw t (missing_on-append d xs ys)
  | inr f ↦ rw f (ap (λ rest. x ∷ rest) (missing_on-append d xs ys))
]

more_sources : (es : List worlds.Entry) (q : Record) → length (sources_in (bare_entries (es ++ OfRecord q ∷ []))) ≡ length (sources_in (bare_entries es))
more_sources es q = ap length (no_source_more es q)

more_records : (es : List worlds.Entry) (q : Record) → length (records_in (bare_entries es)) ≤ length (records_in (bare_entries (es ++ OfRecord q ∷ [])))
more_records [] q = omega arith
more_records (OfSource s ∷ es) q = more_records es q
more_records (OfRecord r ∷ es) q = let rest = more_records es q in omega (arith, rest)

more_charged : (xs : List (DeskEntry × ℕ)) (y : DeskEntry × ℕ) (d : Holdings) → charged_all xs d ≤ charged_all (xs ++ y ∷ []) d
more_charged [] y d = omega arith
more_charged (x ∷ xs) y d =
    let rest = more_charged xs y (holds_entry x.0 x.1 d) in
    omega (arith, rest)

map_push : (es : List worlds.Entry) (q : Record) → map counted (es ++ OfRecord q ∷ []) ≡ map counted es ++ counted (OfRecord q) ∷ []
map_push [] q = refl
map_push (e ∷ es) q = ap (λ rest. counted e ∷ rest) (map_push es q)

-- whether there is room on a desk for those of the entries that are not there
abbrev has_room_for : ℕ → Holdings → List worlds.Entry → Bool
has_room_for limit d es = are_roomy (bare_entries es) (charged_all (map counted es) d) limit d

less_room : (limit : ℕ) (d : Holdings) (es : List worlds.Entry) (q : Record) → has_room_for limit d (es ++ OfRecord q ∷ []) ≡ true
    → has_room_for limit d es ≡ true
less_room limit d es q room =
    let all : List worlds.Entry = es ++ OfRecord q ∷ [] in
    let first = both_parts (nat_le (length d.known.sources + length (sources_in (bare_entries all))) most_sources) _ room in
    let second = both_parts (nat_le (length d.records + length (records_in (bare_entries all))) most_records) _ first.1 in
    let sources = more_sources es q in
    let records = more_records es q in
    let charged : charged_all (map counted es) d ≤ charged_all (map counted all) d =
    subst (λ xs. charged_all (map counted es) d ≤ charged_all xs d) (sym (map_push es q)) (more_charged (map counted es) (counted (OfRecord q)) d) in
    and_from (nat_le (length d.known.sources + length (sources_in (bare_entries es))) most_sources) _
    (let t = first.0 in grind (arith, nat_tests, t, sources))
    (and_from (nat_le (length d.records + length (records_in (bare_entries es))) most_records) _
    (let t = second.0 in grind (arith, nat_tests, t, records))
    (let t = second.1 in grind (arith, nat_tests, t, charged)))

fewer_fit : (limit : ℕ) (d : Holdings) (entries : List worlds.Entry) (q : Record) → has_room_for limit d (missing_on d (with_built entries q)) ≡ true
    → has_room_for limit d (missing_on d entries) ≡ true
fewer_fit limit d entries q room = elim (either (has_built entries q)) [
  | inl t ↦ rw t at room
  | inr f ↦
      let all : has_room_for limit d (missing_on d entries ++ missing_on d (OfRecord q ∷ [])) ≡ true =
      ap (has_room_for limit d) (sym (missing_on-append d entries (OfRecord q ∷ []))) ∙ (rw f at room) in
      elim (either (is_on (entry_without (OfRecord q)) d)) [
        | inl there ↦ ap (has_room_for limit d) (sym (append-nil (missing_on d entries))) ∙ (rw there at all)
        | inr new ↦ less_room limit d (missing_on d entries) q (rw new at all)
      ]
]

-- a desk that stays within its limits with entries and a record stays so with the entries
pub within_fewer : (old : List Source) (limit : ℕ) (d : Holdings) (entries : List worlds.Entry) (q : Record) (users : List (List ℕ)) (beside : Beside)
    → IsSound old limit d → All (IsThereFor old) entries → All (IsThereFor old) (with_built entries q)
    → is_within (record { users = users; charge = limit }) (with_entries (with_built entries q) (desk_of beside old d)) ≡ true
    → is_within (record { users = users; charge = limit }) (with_entries entries (desk_of beside old d)) ≡ true
within_fewer old limit d entries q users beside sound there all_there within =
    let setup : worlds.Setup = record { users = users; charge = limit } in
    let same : Extends old old = λ path has. refl in
    let all : List worlds.Entry = with_built entries q in
    let room : has_room_for limit d (missing_on d all) ≡ true =
    sym (within_copied old old limit d all same all_there sound users beside)
    ∙ ap (is_within setup) (sym (desk_copied old old limit d all same all_there sound beside)) ∙ within in
    ap (is_within setup) (desk_copied old old limit d entries same there sound beside)
    ∙ within_copied old old limit d entries same there sound users beside ∙ fewer_fit limit d entries q room
