-- Records by ascending numbers.
use Rattle.std.proofs.Common.{◌≡◌, ℕ, suc, ◌+◌, ◌-◌, ◌<◌, Bool, true, false, inl, inr, List, [], ◌∷◌, ◌++◌, length, get_or, take, append-nil, refl, sym, ap, ◌∙◌, subst, arith, Option, Some, None, Less, Greater, length-append}
use Rattle.std.specs.Prelude.{◌^◌, ◌==◌, IfSome, bytes_eq, unwrap_or, cond, if◌then◌else◌, not, filter, sum_by, is_some, All}
use Rattle.std.specs.List.{list_any, AllPairs}
use Rattle.std.specs.Map.{lookup, remove_entry}
use Rattle.std.specs.List.Sorted.{IsStrictlySortedBy}
use Rattle.std.specs.BTreeMap.{insert_entry, is_at}
use Rattle.std.specs.Map.{keys_of}
use Rattle.std.specs.Ordering.{nat_cmp, is_lt}
use Rattle.std.specs.Option.{SomeIff}
use Rattle.std.proofs.lemmas.Bool.{or_parts}
use Rattle.std.proofs.lemmas.Bool.Decides.{nat_tests}
use Rattle.std.proofs.lemmas.List.{get_or-map, map-append, length-map}
use Rattle.std.proofs.lemmas.List.Elements.{All-head, All-tail, All-filter, filter-append}
use Rattle.std.proofs.lemmas.Map.Keys.{below_from_sorted, ge_from_not_lt}
use Rattle.std.proofs.Math.Seq.{take-append_seam}
use Rattle.std.proofs.lemmas.List.Sums.{sum_by-cons, sum_by-append}
use Rattle.model.proofs.BoolLemmas.{either, same_bytes}
use Rattle.records.specs.Recorded.{Recorded}
use Rattle.desk_records.specs.Numbers.{AscendByNumber, IsAbove, is_number, number_of, without_numbers}
use Rattle.desk_records.specs.Indexed.{Groups, Tables, group_at, is_record_at, IsGrouped, IsUngrouped, HasSameGroups, AreTabled, HasListed, HasUnlisted, without_last}
use Rattle.desk_records.specs.RecordLists.{is_record_of}
use Rattle.desk_records.specs.Counted.{names_of}

abbrev Numbered : Type 0
Numbered = List (ℕ × Recorded)

same_number : (m n : ℕ) → (m == n) ≡ true → m ≡ n
same_number m n t = grind (arith, nat_tests, t)

other_number : (m n : ℕ) → (m ≡ n → ⊥) → (m == n) ≡ false
other_number m n other = elim (either (m == n)) [ inl t ↦ absurd (other (same_number m n t)) | inr f ↦ f ]

below_other : (m n : ℕ) → m < n → (m == n) ≡ false
below_other m n lt = other_number m n (λ e. absurd (omega (arith, e, lt)))

-- ---- numbers that ascend

module _ {X : Type 0} (R : X → X → Type 0) where
  pub first_of_all : (x : X) (xs : List X) → AllPairs R (x ∷ xs) → All (R x) xs
  first_of_all x xs h = λ k d lt. h 0 (suc k) d (omega arith) (omega (arith, lt))

  pub others_of_all : (x : X) (xs : List X) → AllPairs R (x ∷ xs) → AllPairs R xs
  others_of_all x xs h = λ i j d lt le. h (suc i) (suc j) d (omega (arith, lt)) (omega (arith, le))

-- ---- records in a map, by their numbers

-- a key is that of a number
pub key_of_number : (number n : ℕ) → is_at (nat_cmp number) n ≡ is_number number n
key_of_number number n = grind (arith, nat_tests)

-- the keys of a map ascend
pub ascend_in_map : (numbered : Numbered) → IsStrictlySortedBy nat_cmp (keys_of numbered) → AscendByNumber numbered
ascend_in_map numbered up = λ i j d lt le.
    let long = length-map numbered (λ (e : ℕ × Recorded). e.0) in
    let one = get_or-map (λ (e : ℕ × Recorded). e.0) numbered i d 0 (omega (arith, lt, le)) in
    let other = get_or-map (λ (e : ℕ × Recorded). e.0) numbered j d 0 le in
    let below = below_from_sorted (keys_of numbered) i j 0 up lt (omega (arith, le, long)) in
    omega (arith, one, other, below)

keys_below : (number : ℕ) (numbered : Numbered) → All (λ n. n < number) (keys_of numbered) → IsAbove number numbered
keys_below number numbered below = λ k d lt.
    let long = length-map numbered (λ (e : ℕ × Recorded). e.0) in
    let same = get_or-map (λ (e : ℕ × Recorded). e.0) numbered k d 0 lt in
    let here : get_or (keys_of numbered) k 0 < number = below k 0 (omega (arith, lt, long)) in
    omega (arith, same, here)

-- a number above the last is above all
pub above_last : (last : ℕ) (numbered : Numbered) (o : Option ℕ) → All (λ n. is_lt (nat_cmp last n) ≡ false) (keys_of numbered)
    → SomeIff o (last + 1 < 2 ^ 32) (last + 1) → IfSome o (λ number. IsAbove number numbered)
above_last last numbered None upto so = tt
above_last last numbered (Some number) upto so =
    keys_below number numbered (λ k d lt. let most = ge_from_not_lt last (get_or (keys_of numbered) k d) (upto k d lt) in omega (arith, most, so.1))

-- all but the last are below it
pub below_last : (number : ℕ) (numbered : Numbered) → All (λ n. nat_cmp n number ≡ Less) (keys_of numbered) → IsAbove number numbered
below_last number numbered less =
    keys_below number numbered (λ k d lt. let here = less k d lt in grind (arith, nat_tests, here))

-- a number above all comes behind them
pub put_last : (number : ℕ) (r : Recorded) (numbered : Numbered) → IsAbove number numbered
    → insert_entry nat_cmp numbered number r ≡ numbered ++ (number, r) ∷ []
put_last number r [] above = refl
put_last number r (e ∷ numbered) above =
    let below : e.0 < number = All-head (λ (f : ℕ × Recorded). f.0 < number) e numbered above in
    let after : nat_cmp number e.0 ≡ Greater = grind (arith, nat_tests, below) in
    rw after (ap (λ es. e ∷ es) (put_last number r numbered (All-tail (λ (f : ℕ × Recorded). f.0 < number) e numbered above)))

-- ---- the first that passes a test

pub passed_first : (test : Recorded → Bool) (left rest : Numbered) (e : ℕ × Recorded) → left ≡ e ∷ rest → test e.1 ≡ true → number_of test left ≡ Some e.0
passed_first test left rest e is t = ap (number_of test) is ∙ rw t refl

pub passed_over : (test : Recorded → Bool) (left rest : Numbered) (e : ℕ × Recorded) → left ≡ e ∷ rest → test e.1 ≡ false
    → number_of test rest ≡ number_of test left
passed_over test left rest e is f = sym (ap (number_of test) is ∙ rw f refl)

-- ---- the records of which one is taken out

module _ (number : ℕ) (r : Recorded) where
  -- it is taken out of those that it is among
  pub taken_among : (test : Recorded → Bool) (numbered : Numbered) → lookup (is_number number) numbered ≡ Some r → test r ≡ true
      → remove_entry (is_number number) (filter (λ e. test e.1) numbered) ≡ filter (λ e. test e.1) (remove_entry (is_number number) numbered)
  taken_among test [] there t = refl
  taken_among test (e ∷ numbered) there t = elim (either (e.0 == number)) [
    | inl own ↦
        let same : e.1 ≡ r = cc_some (rw own at there) in
        let passes : test e.1 ≡ true = ap test same ∙ t in
        rw (own, passes) (rw own refl)
    | inr other ↦
        let rest = taken_among test numbered (rw other at there) t in
        elim (either (test e.1)) [
          | inl passes ↦ rw (other, passes) (rw other (ap (λ es. e ∷ es) rest))
          | inr fails ↦ rw (other, fails) rest
        ]
  ]
    where
      cc_some : Some e.1 ≡ Some r → e.1 ≡ r
      cc_some h = cc

  -- and the others stay
  pub taken_apart : (test : Recorded → Bool) (numbered : Numbered) → lookup (is_number number) numbered ≡ Some r → test r ≡ false
      → filter (λ e. test e.1) numbered ≡ filter (λ e. test e.1) (remove_entry (is_number number) numbered)
  taken_apart test [] there f = refl
  taken_apart test (e ∷ numbered) there f = elim (either (e.0 == number)) [
    | inl own ↦
        let same : e.1 ≡ r = cc_some (rw own at there) in
        let fails : test e.1 ≡ false = ap test same ∙ f in
        rw (own, fails) refl
    | inr other ↦
        let rest = taken_apart test numbered (rw other at there) f in
        elim (either (test e.1)) [
          | inl passes ↦ rw (other, passes) (ap (λ es. e ∷ es) rest)
          | inr fails ↦ rw (other, fails) rest
        ]
  ]
    where
      cc_some : Some e.1 ≡ Some r → e.1 ≡ r
      cc_some h = cc

  pub taken_sum : (f : Recorded → ℕ) (numbered : Numbered) → lookup (is_number number) numbered ≡ Some r
      → sum_by f (without_numbers (remove_entry (is_number number) numbered)) + f r ≡ sum_by f (without_numbers numbered)
  taken_sum f [] there = cc
  taken_sum f (e ∷ numbered) there =
      let all = sum_by-cons f e.1 (without_numbers numbered) in
      elim (either (e.0 == number)) [
        | inl own ↦
            let same : f e.1 ≡ f r = ap f (cc_some (rw own at there)) in
            rw own (omega (arith, all, same))
        | inr other ↦
            let rest = taken_sum f numbered (rw other at there) in
            let left = sum_by-cons f e.1 (without_numbers (remove_entry (is_number number) numbered)) in
            rw other (omega (arith, all, rest, left))
      ]
    where
      cc_some : Some e.1 ≡ Some r → e.1 ≡ r
      cc_some h = cc

  -- where it fails a test, the others that pass are the same
  pub taken_rest : (test : Recorded → Bool) (numbered : Numbered) → lookup (is_number number) numbered ≡ Some r → test r ≡ false
      → filter test (without_numbers (remove_entry (is_number number) numbered)) ≡ filter test (without_numbers numbered)
  taken_rest test [] there f = refl
  taken_rest test (e ∷ numbered) there f = elim (either (e.0 == number)) [
    | inl own ↦
        let same : e.1 ≡ r = cc_some (rw own at there) in
        let fails : test e.1 ≡ false = ap test same ∙ f in
        rw (own, fails) refl
    | inr other ↦
        let rest = taken_rest test numbered (rw other at there) f in
        elim (either (test e.1)) [
          | inl passes ↦ rw (other, passes) (ap (λ rs. e.1 ∷ rs) rest)
          | inr fails ↦ rw (other, fails) rest
        ]
  ]
    where
      cc_some : Some e.1 ≡ Some r → e.1 ≡ r
      cc_some h = cc

  pub taken_length : (numbered : Numbered) → lookup (is_number number) numbered ≡ Some r
      → length (without_numbers (remove_entry (is_number number) numbered)) + 1 ≡ length (without_numbers numbered)
  taken_length [] there = cc
  taken_length (e ∷ numbered) there = elim (either (e.0 == number)) [
    | inl own ↦ rw own (omega arith)
    | inr other ↦ (let rest = taken_length numbered (rw other at there) in rw other (omega (arith, rest)))
  ]

-- what was put last is taken out again
pub put_back : (number : ℕ) (r : Recorded) (numbered : Numbered) → IsAbove number numbered
    → remove_entry (is_number number) (numbered ++ (number, r) ∷ []) ≡ numbered
put_back number r [] above = let own : (number == number) ≡ true = grind (arith, nat_tests) in rw own refl
put_back number r (e ∷ numbered) above =
    let below : e.0 < number = All-head (λ (f : ℕ × Recorded). f.0 < number) e numbered above in
    rw (below_other e.0 number below) (ap (λ es. e ∷ es) (put_back number r numbered (All-tail (λ (f : ℕ × Recorded). f.0 < number) e numbered above)))

-- ---- the first of some records

-- there is a number where a record passes
pub some_number : (test : Recorded → Bool) (numbered : Numbered) → is_some (number_of test numbered) ≡ list_any test (without_numbers numbered)
some_number test [] = refl
some_number test (e ∷ numbered) = elim (either (test e.1)) [ inl t ↦ rw t refl | inr f ↦ rw f (some_number test numbered) ]

-- the records that pass are those of the entries that do
pub bare_filter : (test : Recorded → Bool) (numbered : Numbered) → without_numbers (filter (λ e. test e.1) numbered) ≡ filter test (without_numbers numbered)
bare_filter test [] = refl
bare_filter test (e ∷ numbered) = elim (either (test e.1)) [
  | inl t ↦ rw t (ap (λ rs. e.1 ∷ rs) (bare_filter test numbered))
  | inr f ↦ rw f (bare_filter test numbered)
]

-- a record that a number finds
pub record IsFound (number : ℕ) (test : Recorded → Bool) (numbered : Numbered) : Type 0 where
  pub one : Recorded
  pub there : lookup (is_number number) numbered ≡ Some one
  pub passes : test one ≡ true

above_found : (m number : ℕ) (r : Recorded) (numbered : Numbered) → All (λ e. m < e.0) numbered → lookup (is_number number) numbered ≡ Some r → m < number
above_found m number r [] above there = cc
above_found m number r (e ∷ numbered) above there = elim (either (e.0 == number)) [
  | inl own ↦
      let same = same_number e.0 number own in
      let here : m < e.0 = All-head (λ (f : ℕ × Recorded). m < f.0) e numbered above in
      omega (arith, same, here)
  | inr other ↦ above_found m number r numbered (All-tail (λ (f : ℕ × Recorded). m < f.0) e numbered above) (rw other at there)
]

-- the number of the first that passes finds it
pub found_first : (number : ℕ) (test : Recorded → Bool) (numbered : Numbered) → AscendByNumber numbered → number_of test numbered ≡ Some number
    → IsFound number test numbered
found_first number test [] up is = cc
found_first number test (e ∷ numbered) up is = elim (either (test e.1)) [
  | inl t ↦
      let own : e.0 ≡ number = (let some : Some e.0 ≡ Some number = rw t at is in cc) in
      let same : (e.0 == number) ≡ true = grind (arith, nat_tests, own) in
      record { one = e.1; there = rw same refl; passes = t }
  | inr f ↦
      let rest = found_first number test numbered (others_of_all (λ (a b : ℕ × Recorded). a.0 < b.0) e numbered up) (rw f at is) in
      let below = above_found e.0 number rest.one numbered (first_of_all (λ (a b : ℕ × Recorded). a.0 < b.0) e numbered up) rest.there in
      record { one = rest.one; there = rw (below_other e.0 number below) rest.there; passes = rest.passes }
]

-- it is sought among those that pass another test, if all that pass this one do
pub number_among : (test keep : Recorded → Bool) (numbered : Numbered) → ((r : Recorded) → test r ≡ true → keep r ≡ true)
    → number_of test (filter (λ e. keep e.1) numbered) ≡ number_of test numbered
number_among test keep [] within = refl
number_among test keep (e ∷ numbered) within = elim (either (keep e.1)) [
  | inl t ↦ elim (either (test e.1)) [ inl u ↦ rw (t, u) refl | inr g ↦ rw (t, g) (number_among test keep numbered within) ]
  | inr f ↦ elim (either (test e.1)) [
    | inl u ↦ let passes = within e.1 u in cc
    | inr g ↦ rw (f, g) (number_among test keep numbered within)
  ]
]

-- ---- groups

-- a group whose last record is gone may go
pub emptied : (key : List ℕ) (number : ℕ) (old mid new : Groups) → IsUngrouped key number old mid → group_at key mid ≡ []
    → ((k : List ℕ) → lookup (bytes_eq k) new ≡ cond (bytes_eq key k) None (lookup (bytes_eq k) mid)) → IsUngrouped key number old new
emptied key number old mid new taken gone updates k = ap (λ o. unwrap_or o []) (updates k) ∙ same ∙ taken k
  where
    same : unwrap_or (cond (bytes_eq key k) None (lookup (bytes_eq k) mid)) [] ≡ group_at k mid
    same = elim (either (bytes_eq key k)) [
      | inl t ↦ rw t (sym (ap (λ q. group_at q mid) (sym (same_bytes key k t)) ∙ gone))
      | inr f ↦ rw f refl
    ]

-- a record that was put into a group and taken out again
pub back_again : (key : List ℕ) (number : ℕ) (r : Recorded) (old mid new : Groups) → IsAbove number (group_at key old) → IsGrouped key (number, r) old mid
    → IsUngrouped key number mid new → HasSameGroups old new
back_again key number r old mid new above put taken k =
    let is : group_at k mid ≡ (if bytes_eq key k then group_at k old ++ (number, r) ∷ [] else group_at k old) = put k in
    taken k ∙ (elim (either (bytes_eq key k)) [
      | inl t ↦
          let here : group_at k mid ≡ group_at k old ++ (number, r) ∷ [] = rw t at is in
          let above_here : IsAbove number (group_at k old) = subst (λ q. IsAbove number (group_at q old)) (same_bytes key k t) above in
          rw t (ap (remove_entry (is_number number)) here ∙ put_back number r (group_at k old) above_here)
      | inr f ↦ (let here : group_at k mid ≡ group_at k old = rw f at is in rw f here)
    ])

-- ---- the tables of records

among_or_apart : (number : ℕ) (r : Recorded) (test : Recorded → Bool) (numbered : Numbered) → lookup (is_number number) numbered ≡ Some r
    → (if test r then remove_entry (is_number number) (filter (λ e. test e.1) numbered) else filter (λ e. test e.1) numbered)
    ≡ filter (λ e. test e.1) (remove_entry (is_number number) numbered)
among_or_apart number r test numbered there = elim (either (test r)) [
  | inl t ↦ rw t (taken_among number r test numbered there t)
  | inr f ↦ rw f (taken_apart number r test numbered there f)
]

-- one record less
pub tabled_less : (number : ℕ) (r : Recorded) (old new : Tables) (numbered : Numbered) → AreTabled old numbered
    → lookup (is_number number) numbered ≡ Some r → HasUnlisted number r old new → AreTabled new (remove_entry (is_number number) numbered)
tabled_less number r old new numbered is there less = record {
  by_class = λ key. less.by_class key ∙ ap (λ (g : Numbered). if bytes_eq r.class.path key then remove_entry (is_number number) g else g) (is.by_class key)
      ∙ among_or_apart number r (is_record_of key) numbered there;
  by_path = λ key. less.by_path key ∙ ap (λ (g : Numbered). if bytes_eq r.path key then remove_entry (is_number number) g else g) (is.by_path key)
      ∙ among_or_apart number r (is_record_at key) numbered there;
  named = λ class path.
      let left = less.named class path in
      let before = is.named class path in
      let all = taken_sum number r (names_of class path) numbered there in
      omega (arith, left, before, all);
}

last_there : (number : ℕ) (r : Recorded) (numbered : Numbered) → IsAbove number numbered
    → lookup (is_number number) (numbered ++ (number, r) ∷ []) ≡ Some r
last_there number r [] above = let own : (number == number) ≡ true = grind (arith, nat_tests) in rw own refl
last_there number r (e ∷ numbered) above =
    let below : e.0 < number = All-head (λ (f : ℕ × Recorded). f.0 < number) e numbered above in
    rw (below_other e.0 number below) (last_there number r numbered (All-tail (λ (f : ℕ × Recorded). f.0 < number) e numbered above))

-- the last record less
pub tabled_before : (number : ℕ) (r : Recorded) (old new : Tables) (numbered : Numbered) → AreTabled old (numbered ++ (number, r) ∷ [])
    → IsAbove number numbered → HasUnlisted number r old new → AreTabled new numbered
tabled_before number r old new numbered is above less =
    subst (AreTabled new) (put_back number r numbered above)
    (tabled_less number r old new (numbered ++ (number, r) ∷ []) is (last_there number r numbered above) less)

filter_last : (number : ℕ) (r : Recorded) (test : Recorded → Bool) (numbered : Numbered)
    → (if test r then filter (λ e. test e.1) numbered ++ (number, r) ∷ [] else filter (λ e. test e.1) numbered)
    ≡ filter (λ e. test e.1) (numbered ++ (number, r) ∷ [])
filter_last number r test numbered =
    let all = filter-append (λ (e : ℕ × Recorded). test e.1) numbered ((number, r) ∷ []) in
    elim (either (test r)) [
      | inl t ↦ rw t (sym (all ∙ rw t refl))
      | inr f ↦ rw f (sym (all ∙ rw f (append-nil (filter (λ e. test e.1) numbered))))
    ]

-- one record more
pub tabled_more : (number : ℕ) (r : Recorded) (old new : Tables) (numbered : Numbered) → AreTabled old numbered → HasListed number r old new
    → AreTabled new (numbered ++ (number, r) ∷ [])
tabled_more number r old new numbered is more =
    let e : ℕ × Recorded = (number, r) in
    record {
      by_class = λ key. more.by_class key ∙ ap (λ (g : Numbered). if bytes_eq r.class.path key then g ++ e ∷ [] else g) (is.by_class key)
          ∙ filter_last number r (is_record_of key) numbered;
      by_path = λ key. more.by_path key ∙ ap (λ (g : Numbered). if bytes_eq r.path key then g ++ e ∷ [] else g) (is.by_path key)
          ∙ filter_last number r (is_record_at key) numbered;
      named = λ class path.
          let now = more.named class path in
          let before = is.named class path in
          let bare = ap (sum_by (names_of class path)) (map-append (λ (f : ℕ × Recorded). f.1) numbered (e ∷ [])) in
          let all = sum_by-append (names_of class path) (without_numbers numbered) (r ∷ []) in
          let own = sum_by-cons (names_of class path) r [] in
          omega (arith, now, before, bare, all, own);
    }

-- a number above all is above those of a group
pub above_group : (number : ℕ) (test : Recorded → Bool) (group numbered : Numbered) → group ≡ filter (λ e. test e.1) numbered → IsAbove number numbered
    → IsAbove number group
above_group number test group numbered is above =
    subst (IsAbove number) (sym is) (All-filter (λ (e : ℕ × Recorded). test e.1) (λ (e : ℕ × Recorded). e.0 < number) numbered above)

-- one that is listed, and then no longer
pub tabled_back : (number : ℕ) (r : Recorded) (old mid new : Tables) (numbered : Numbered) → AreTabled old numbered → IsAbove number numbered
    → HasListed number r old mid → HasUnlisted number r mid new → AreTabled new numbered
tabled_back number r old mid new numbered is above more less = record {
  by_class = λ key. back_again r.class.path number r old.by_class mid.by_class new.by_class
      (above_group number (is_record_of r.class.path) (group_at r.class.path old.by_class) numbered (is.by_class r.class.path) above) more.by_class less.by_class key
      ∙ is.by_class key;
  by_path = λ key. back_again r.path number r old.by_path mid.by_path new.by_path
      (above_group number (is_record_at r.path) (group_at r.path old.by_path) numbered (is.by_path r.path) above) more.by_path less.by_path key
      ∙ is.by_path key;
  named = λ class path.
      let before = is.named class path in
      let between = more.named class path in
      let after = less.named class path in
      omega (arith, before, between, after);
}

-- none remains taken where none is there
pub none_remain : (test : Recorded → Bool) (records : List Recorded) → list_any test records ≡ false → filter (λ r. not (test r)) records ≡ records
none_remain test [] none = refl
none_remain test (r ∷ records) none =
    let parts = or_parts (test r) (list_any test records) none in
    rw parts.0 (ap (λ rs. r ∷ rs) (none_remain test records parts.1))

-- where no number is found, nothing is taken out
pub absent_stays : (test : ℕ → Bool) (numbered : Numbered) → lookup test numbered ≡ None → remove_entry test numbered ≡ numbered
absent_stays test [] absent = refl
absent_stays test (e ∷ numbered) absent = elim (either (test e.0)) [
  | inl t ↦ let wrong : Some e.1 ≡ None = rw t at absent in cc
  | inr f ↦ (let rest : lookup test numbered ≡ None = rw f at absent in rw f (ap (λ es. e ∷ es) (absent_stays test numbered rest)))
]

-- the records without the last
pub bare_last : (e : ℕ × Recorded) (numbered : Numbered) → without_numbers numbered ≡ without_last (without_numbers (numbered ++ e ∷ []))
bare_last e numbered =
    let bare = map-append (λ (f : ℕ × Recorded). f.1) numbered (e ∷ []) in
    let records = without_numbers numbered in
    let long : length (records ++ e.1 ∷ []) - 1 ≡ length records = omega (arith, length-append records (e.1 ∷ [])) in
    sym (take-append_seam records (e.1 ∷ [])) ∙ ap (λ n. take n (records ++ e.1 ∷ [])) (sym long) ∙ ap without_last (sym bare)
