-- A desk without the records of a class at a path.
use Rattle.std.proofs.Common.{◌≡◌, ℕ, zero, suc, ◌+◌, ◌-◌, ◌<◌, ◌≤◌, length, get_or, take, Bool, true, false, inl, inr, List, [], ◌∷◌, map, refl, sym, ap, subst, ◌∙◌, arith, Option, Some, None}
use Rattle.std.specs.Prelude.{◌&&◌, ◌||◌, filter, bytes_eq, sum_by, All, position, unwrap_or, option_map, cond, nat_lt, slice_set}
use Rattle.std.specs.List.{list_any, swap_remove, position_or_len}
use Rattle.std.specs.Map.{lookup, keys_of}
use Rattle.std.specs.Option.{option_map_or}
use Rattle.std.proofs.lemmas.Bool.{or_parts, or_left, or_right}
use Rattle.std.proofs.lemmas.Bool.Decides.{nat_tests}
use Rattle.std.proofs.lemmas.List.Elements.{All-nil, All-cons, All-head, All-tail}
use Rattle.std.proofs.lemmas.List.Folds.{list_any-append}
use Rattle.std.proofs.lemmas.List.{length-map, get_or-map, get_or_default}
use Rattle.std.proofs.lemmas.List.Quantifiers.{position-Some}
use Rattle.std.proofs.lemmas.List.Sorted.{IsPermutation-swap_remove, All-permutation}
use Rattle.std.proofs.lemmas.List.Sums.{sum_by-cons, sum_by-swap_remove, fails_before_first}
use Rattle.model.specs.Classes.{Class}
use Rattle.model.specs.Worlds.{Label}
use Rattle.model.specs.ForgetRequests.{is_class_at}
use Rattle.model.proofs.BoolLemmas.{either, same_bytes, bytes_eq_sym, both_parts, or_cases}
use Rattle.path_sets.proofs.PathSetLemmas.{one_of_keys}
use Rattle.records.specs.Recorded.{Recorded}
use Rattle.desk_records.proofs.CountedLemmas.{some_more}
use Rattle.realise.specs.declared.desk.Desk.TheInside.{Inside}
use Rattle.realise.specs.Held.{Held, paths_held, bytes_held, without_archive, bytes_at}
use Rattle.realise.specs.Kept.{holdings_of, IsConsistent}
use Rattle.desk_records.specs.RecordLists.{is_recorded_at, remaining, refers_to}
use Rattle.realise.specs.Holdings.{Holdings, paths_of, stays_held, is_needed, is_at, has_labelled, IsClosed, IsClosedWith, without_records}

-- ---- what is charged for a path

-- what is found at a place is found by its path
found_at : (path : List ℕ) (held : List (List ℕ × ℕ)) (i : ℕ) (d : List ℕ × ℕ) → i < length held → bytes_eq path (get_or held i d).0 ≡ true
    → ((k : ℕ) → k < i → bytes_eq path (get_or held k d).0 ≡ false) → lookup (bytes_eq path) held ≡ Some (get_or held i d).1
found_at path [] i d below here before = absurd (omega (arith, below))
found_at path (a ∷ held) zero d below here before = rw here refl
found_at path (a ∷ held) (suc i) d below here before =
    rw (before 0 (omega arith)) (found_at path held i d (omega (arith, below)) here (λ k lt. before (suc k) (omega (arith, lt))))

key_at : (held : List (List ℕ × ℕ)) (k : ℕ) (d : List ℕ × ℕ) → k < length held → get_or (keys_of held) k d.0 ≡ (get_or held k d).0
key_at held k d lt = get_or-map (λ (a : List ℕ × ℕ). a.0) held k d d.0 lt

none_at : (path : List ℕ) (held : List (List ℕ × ℕ)) → ((k : ℕ) (d : List ℕ × ℕ) → k < length held → bytes_eq path (get_or held k d).0 ≡ false)
    → lookup (bytes_eq path) held ≡ None
none_at path [] none = refl
none_at path (a ∷ held) none = rw (none 0 a (omega arith)) (none_at path held (λ k d lt. none (suc k) d (omega (arith, lt))))

no_place : (path : List ℕ) (held : List (List ℕ × ℕ)) → position (bytes_eq path) (keys_of held) ≡ None → lookup (bytes_eq path) held ≡ None
no_place path held is = none_at path held (λ k d lt.
    ap (bytes_eq path) (sym (key_at held k d lt))
    ∙ fails_before_first (bytes_eq path) (keys_of held) k d.0 (omega (arith, past, lt, length-map held (λ (a : List ℕ × ℕ). a.0))))
  where
    past : length (keys_of held) ≤ position_or_len (bytes_eq path) (keys_of held)
    past = elim (either (nat_lt (position_or_len (bytes_eq path) (keys_of held)) (length (keys_of held)))) [
      | inl t ↦ let wrong = rw t at is in absurd (cc)
      | inr f ↦ grind (arith, nat_tests, f)
    ]

-- the place of a path, and the archive there
record IsPlace (path : List ℕ) (held : List (List ℕ × ℕ)) (i : ℕ) (d : List ℕ × ℕ) : Type 0 where
  below : i < length held
  here : bytes_eq path (get_or held i d).0 ≡ true
  found : lookup (bytes_eq path) held ≡ Some (get_or held i d).1

placed : (path : List ℕ) (held : List (List ℕ × ℕ)) (i : ℕ) (d : List ℕ × ℕ) → position (bytes_eq path) (keys_of held) ≡ Some i → IsPlace path held i d
placed path held i d is =
    let at = position-Some (bytes_eq path) (keys_of held) i d.0 is in
    let below : i < length held = omega (arith, at.0, length-map held (λ (a : List ℕ × ℕ). a.0)) in
    let here : bytes_eq path (get_or held i d).0 ≡ true = ap (bytes_eq path) (sym (key_at held i d below)) ∙ at.1 in
    record {
      below = below;
      here = here;
      found = found_at path held i d below here (λ k lt. ap (bytes_eq path) (sym (key_at held k d (omega (arith, lt, below)))) ∙ at.2 k lt);
    }

-- whatever is counted of archives is counted of that of a path and of the others
swapped : (f : List ℕ × ℕ → ℕ) (path : List ℕ) (a : List ℕ × ℕ) (held : List (List ℕ × ℕ)) (o : Option ℕ) → position (bytes_eq path) (keys_of (a ∷ held)) ≡ o
    → sum_by f (option_map_or (λ i. swap_remove (a ∷ held) i a) o (a ∷ held)) + unwrap_or (option_map (λ i. f (get_or (a ∷ held) i a)) o) 0 ≡ sum_by f (a ∷ held)
swapped f path a held None is = omega arith
swapped f path a held (Some i) is = sum_by-swap_remove f (a ∷ held) i a (placed path (a ∷ held) i a is).below

-- the archives are that of a path and the others
pub bytes_without : (path : List ℕ) (held : List (List ℕ × ℕ)) → bytes_held (without_archive path held) + bytes_at path held ≡ bytes_held held
bytes_without path [] = refl
bytes_without path (a ∷ held) =
    let all = swapped (λ b. b.1) path a held (position (bytes_eq path) (keys_of (a ∷ held))) refl in
    let own : bytes_at path (a ∷ held) ≡ unwrap_or (option_map (λ i. (get_or (a ∷ held) i a).1) (position (bytes_eq path) (keys_of (a ∷ held)))) 0 =
    found_bytes (position (bytes_eq path) (keys_of (a ∷ held))) refl in
    omega (arith, all, own)
  where
    found_bytes : (o : Option ℕ) → position (bytes_eq path) (keys_of (a ∷ held)) ≡ o
        → bytes_at path (a ∷ held) ≡ unwrap_or (option_map (λ i. (get_or (a ∷ held) i a).1) o) 0
    found_bytes None is = ap (λ o. unwrap_or o 0) (no_place path (a ∷ held) is)
    found_bytes (Some i) is = ap (λ o. unwrap_or o 0) (placed path (a ∷ held) i a is).found

-- a path counts once where it is held
abbrev of_path : List ℕ → List ℕ × ℕ → ℕ
of_path q b = cond (bytes_eq q b.0) 1 0

some_held : (q : List ℕ) (held : List (List ℕ × ℕ)) → nat_lt 0 (sum_by (of_path q) held) ≡ list_any (bytes_eq q) (paths_held held)
some_held q [] = refl
some_held q (a ∷ held) =
    ap (nat_lt 0) (sum_by-cons (of_path q) a held)
    ∙ some_more (bytes_eq q a.0) (sum_by (of_path q) held) (list_any (bytes_eq q) (paths_held held)) (some_held q held)

-- no other path is taken away
pub others_held : (path q : List ℕ) (held : List (List ℕ × ℕ)) → bytes_eq q path ≡ false
    → list_any (bytes_eq q) (paths_held (without_archive path held)) ≡ list_any (bytes_eq q) (paths_held held)
others_held path q [] other = refl
others_held path q (a ∷ held) other =
    let all = swapped (of_path q) path a held (position (bytes_eq path) (keys_of (a ∷ held))) refl in
    let none : unwrap_or (option_map (λ i. of_path q (get_or (a ∷ held) i a)) (position (bytes_eq path) (keys_of (a ∷ held)))) 0 ≡ 0 =
    apart (position (bytes_eq path) (keys_of (a ∷ held))) refl in
    let same : sum_by (of_path q) (without_archive path (a ∷ held)) ≡ sum_by (of_path q) (a ∷ held) = omega (arith, all, none) in
    sym (some_held q (without_archive path (a ∷ held))) ∙ ap (nat_lt 0) same ∙ some_held q (a ∷ held)
  where
    apart : (o : Option ℕ) → position (bytes_eq path) (keys_of (a ∷ held)) ≡ o → unwrap_or (option_map (λ i. of_path q (get_or (a ∷ held) i a)) o) 0 ≡ 0
    apart None is = refl
    apart (Some i) is =
        let at : path ≡ (get_or (a ∷ held) i a).0 = same_bytes path (get_or (a ∷ held) i a).0 (placed path (a ∷ held) i a is).here in
        ap (λ b. cond b 1 0) (ap (bytes_eq q) (sym at) ∙ other)

-- and what holds of all holds of those that are left
pub all_left : (P : List ℕ × ℕ → Type 0) (path : List ℕ) (held : List (List ℕ × ℕ)) → All P held → All P (without_archive path held)
all_left P path [] all = all
all_left P path (a ∷ held) all = left (position (bytes_eq path) (keys_of (a ∷ held))) refl
  where
    left : (o : Option ℕ) → position (bytes_eq path) (keys_of (a ∷ held)) ≡ o → All P (option_map_or (λ i. swap_remove (a ∷ held) i a) o (a ∷ held))
    left None is = all
    left (Some i) is =
        let xs : List (List ℕ × ℕ) = a ∷ held in
        let x = get_or xs i a in
        let place = placed path xs i a is in
        let own : x ≡ get_or xs i x = get_or_default xs i a x place.below in
        let last : get_or xs (length xs - 1) x ≡ get_or xs (length xs - 1) a = get_or_default xs (length xs - 1) x a (omega arith) in
        let both = All-permutation P xs (x ∷ swap_remove xs i x) (IsPermutation-swap_remove xs i x place.below own) all in
        subst (λ y. All P (take (length xs - 1) (slice_set xs i y))) last (All-tail P x (swap_remove xs i x) both)

-- ---- the records that remain

-- whoever is sought among some is sought by both tests among all
pub any_kept : (test keep : Recorded → Bool) (records : List Recorded) → list_any test (filter keep records) ≡ list_any (λ r. keep r && test r) records
any_kept test keep [] = refl
any_kept test keep (r ∷ records) = elim (either (keep r)) [
  | inl t ↦ rw (t, any_kept test keep records) refl
  | inr f ↦ rw (f, any_kept test keep records) refl
]

-- a path that is not that one is held as before
pub others_remain : (class path q : List ℕ) (records : List Recorded) → bytes_eq q path ≡ false
    → list_any (bytes_eq q) (map (λ r. r.path) (remaining class path records)) ≡ list_any (bytes_eq q) (map (λ r. r.path) records)
others_remain class path q [] other = refl
others_remain class path q (r ∷ records) other = elim (either (is_recorded_at class path r)) [
  | inl t ↦
      let at : r.path ≡ path = same_bytes r.path path (both_parts (bytes_eq r.class.path class) (bytes_eq r.path path) t).1 in
      let none : bytes_eq q r.path ≡ false = ap (bytes_eq q) at ∙ other in
      rw (t, none) (others_remain class path q records other)
  | inr f ↦ rw (f, others_remain class path q records other) refl
]

-- ---- what labels name

-- what has another label is there still
found_still : (class path other : List ℕ) (own : Class) (records : List Recorded) → is_class_at class path other (Some own) ≡ false
    → list_any (is_at other own) records ≡ true → list_any (is_at other own) (remaining class path records) ≡ true
found_still class path other own [] apart there = there
found_still class path other own (r ∷ records) apart there = elim (either (is_recorded_at class path r)) [
  | inl t ↦
      let both = both_parts (bytes_eq r.class.path class) (bytes_eq r.path path) t in
      elim (either (is_at other own r)) [
        | inl at ↦
            let his = both_parts (bytes_eq r.path other) (bytes_eq r.class.path own.path) at in
            let one : bytes_eq own.path class ≡ true = ap (λ p. bytes_eq p class) (sym (same_bytes r.class.path own.path his.1)) ∙ both.0 in
            let two : bytes_eq other path ≡ true = ap (λ p. bytes_eq p path) (sym (same_bytes r.path other his.0)) ∙ both.1 in
            let no : is_class_at class path other (Some own) ≡ true = rw (one, two) refl in
            absurd (let wrong : true ≡ false = sym no ∙ apart in cc)
        | inr away ↦ rw t (found_still class path other own records apart (rw away at there))
      ]
  | inr f ↦ elim (either (is_at other own r)) [
    | inl at ↦ rw f (rw at refl)
    | inr away ↦ rw f (rw away (found_still class path other own records apart (rw away at there)))
  ]
]

pub labelled_still : (class path : List ℕ) (d : Holdings) (other : List ℕ) (own : Option Class) → is_class_at class path other own ≡ false
    → has_labelled d other own ≡ true → has_labelled (without_records class path d) other own ≡ true
labelled_still class path d other None apart there = there
labelled_still class path d other (Some own) apart there = found_still class path other own d.records apart there

labels_still : (class path : List ℕ) (d : Holdings) (labels : List Label) → list_any (λ l. is_class_at class path l.path l.class) labels ≡ false
    → All (λ l. has_labelled d l.path l.class ≡ true) labels → All (λ l. has_labelled (without_records class path d) l.path l.class ≡ true) labels
labels_still class path d [] apart named = All-nil (λ (l : Label). has_labelled (without_records class path d) l.path l.class ≡ true)
labels_still class path d (l ∷ labels) apart named =
    let parts = or_parts (is_class_at class path l.path l.class) (list_any (λ k. is_class_at class path k.path k.class) labels) apart in
    All-cons (λ (k : Label). has_labelled (without_records class path d) k.path k.class ≡ true) l labels
    (labelled_still class path d l.path l.class parts.0 (All-head (λ (k : Label). has_labelled d k.path k.class ≡ true) l labels named))
    (labels_still class path d labels parts.1 (All-tail (λ (k : Label). has_labelled d k.path k.class ≡ true) l labels named))

-- a desk stays closed
remaining_closed : (class path : List ℕ) (d : Holdings) (records : List Recorded) → list_any (refers_to class path) (remaining class path records) ≡ false
    → All (IsClosedWith d) records → All (IsClosedWith (without_records class path d)) (remaining class path records)
remaining_closed class path d [] free closed = All-nil (IsClosedWith (without_records class path d))
remaining_closed class path d (r ∷ records) free closed =
    let rest : All (IsClosedWith d) records = All-tail (IsClosedWith d) r records closed in
    elim (either (is_recorded_at class path r)) [
      | inl t ↦ rw t (remaining_closed class path d records (rw t at free) rest)
      | inr f ↦
          let own : list_any (refers_to class path) (r ∷ remaining class path records) ≡ false = rw f at free in
          let parts = or_parts (refers_to class path r) (list_any (refers_to class path) (remaining class path records)) own in
          rw f (All-cons (IsClosedWith (without_records class path d)) r (remaining class path records)
          (labels_still class path d r.labels parts.0 (All-head (IsClosedWith d) r records closed))
          (remaining_closed class path d records parts.1 rest))
    ]

pub stays_closed : (class path : List ℕ) (d : Holdings) → is_needed class path d ≡ false → IsClosed d → IsClosed (without_records class path d)
stays_closed class path d free closed = remaining_closed class path d d.records free closed

-- ---- what is held

module _ (d : Inside) (is : IsConsistent d) (class path : List ℕ) where
  abbrev before : Holdings
  before = holdings_of d

  -- whether the path is held by something else
  abbrev stays : Bool
  stays = stays_held class path before

  -- a record of it is on the desk, so its path is held
  pub held_there : list_any (is_recorded_at class path) d.records ≡ true → list_any (bytes_eq path) (paths_held d.holding.archives) ≡ true
  held_there there =
      is.held path ∙ list_any-append (bytes_eq path) d.known.sources (map (λ r. r.path) d.records)
      ∙ or_right (list_any (bytes_eq path) d.known.sources) _ (path_among d.records there)
    where
      path_among : (records : List Recorded) → list_any (is_recorded_at class path) records ≡ true → list_any (bytes_eq path) (map (λ r. r.path) records) ≡ true
      path_among [] there = cc
      path_among (r ∷ records) there = elim (or_cases (is_recorded_at class path r) (list_any (is_recorded_at class path) records) there) [
        | inl t ↦ or_left (bytes_eq path r.path) _ (bytes_eq_sym path r.path ∙ (both_parts (bytes_eq r.class.path class) (bytes_eq r.path path) t).1)
        | inr rest ↦ or_right (bytes_eq path r.path) _ (path_among records rest)
      ]

  -- other paths are held as before
  other_paths : (q : List ℕ) → bytes_eq q path ≡ false
      → list_any (bytes_eq q) (paths_of before) ≡ list_any (bytes_eq q) (paths_of (without_records class path before))
  other_paths q other =
      let front = d.known.sources in
      list_any-append (bytes_eq q) front (map (λ r. r.path) d.records)
      ∙ ap (λ b. list_any (bytes_eq q) front || b) (sym (others_remain class path q d.records other))
      ∙ sym (list_any-append (bytes_eq q) front (map (λ r. r.path) (remaining class path d.records)))

  -- the path itself is held where something else is there
  own_path : list_any (bytes_eq path) (paths_of (without_records class path before)) ≡ stays
  own_path = one_of_keys path (paths_of (without_records class path before))

  module _ (records : List Recorded) (are : records ≡ remaining class path d.records) where
    -- the desk where its path is held still
    pub kept_view : stays ≡ true → holdings_of (record d { records = records }) ≡ without_records class path before
    kept_view t =
        let charge : bytes_held d.holding.archives ≡ bytes_held d.holding.archives - 0 = omega arith in
        rw t (λ i. record before { records = are i; charge = charge i })

    pub kept_consistent : stays ≡ true → is_needed class path before ≡ false → list_any (is_recorded_at class path) d.records ≡ true
        → IsConsistent (record d { records = records })
    kept_consistent t free there =
        let view = kept_view t in
        record {
          closed = subst IsClosed (sym view) (stays_closed class path before free is.closed);
          held = λ q. subst (λ (h : Holdings). list_any (bytes_eq q) (paths_held d.holding.archives) ≡ list_any (bytes_eq q) (paths_of h)) (sym view) (elim (either (bytes_eq q path)) [
            | inl own ↦
                let same : q ≡ path = same_bytes q path own in
                subst (λ p. list_any (bytes_eq p) (paths_held d.holding.archives) ≡ list_any (bytes_eq p) (paths_of (without_records class path before))) (sym same)
                (held_there there ∙ sym (own_path ∙ t))
            | inr other ↦ is.held q ∙ other_paths q other
          ]);
        }

    module _ (holding : Held) (removed : holding.archives ≡ without_archive path d.holding.archives)
        (gone : list_any (bytes_eq path) (paths_held holding.archives) ≡ false) where
      -- the desk where it is held no longer
      pub gone_view : stays ≡ false → holdings_of (record d { records = records; holding = holding }) ≡ without_records class path before
      gone_view f =
          let all = bytes_without path d.holding.archives in
          let left = ap bytes_held removed in
          let charge : bytes_held holding.archives ≡ bytes_held d.holding.archives - bytes_at path d.holding.archives = omega (arith, all, left) in
          rw f (λ i. record before { records = are i; archives = removed i; charge = charge i })

      pub gone_consistent : stays ≡ false → is_needed class path before ≡ false → IsConsistent (record d { records = records; holding = holding })
      gone_consistent f free =
          let view = gone_view f in
          record {
            closed = subst IsClosed (sym view) (stays_closed class path before free is.closed);
            held = λ q. subst (λ (h : Holdings). list_any (bytes_eq q) (paths_held holding.archives) ≡ list_any (bytes_eq q) (paths_of h)) (sym view) (elim (either (bytes_eq q path)) [
              | inl own ↦
                  let same : q ≡ path = same_bytes q path own in
                  subst (λ p. list_any (bytes_eq p) (paths_held holding.archives) ≡ list_any (bytes_eq p) (paths_of (without_records class path before))) (sym same)
                  (gone ∙ sym (own_path ∙ f))
              | inr other ↦
                  ap (λ held. list_any (bytes_eq q) (paths_held held)) removed ∙ others_held path q d.holding.archives other ∙ is.held q ∙ other_paths q other
            ]);
          }
