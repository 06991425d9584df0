-- Numbers put into ascending lists at their places, and taken out of them.
use Rattle.std.proofs.Common.{◌≡◌, ◌≢◌, ℕ, zero, suc, ◌+◌, ◌<◌, ◌≤◌, Bool, true, false, inl, inr, List, [], ◌∷◌, length, get_or, refl, sym, ◌∙◌, ap, arith, Some, None, Result}
use Rattle.std.specs.Prelude.{position, IsOk, is_ok, nat_lt, nat_le, ◌==◌, if◌then◌else◌}
use Rattle.std.specs.List.{position_or_len, insert, remove}
use Rattle.std.specs.List.Sorted.{IsNonDecreasing, IsPartitionPoint}
use Rattle.std.proofs.lemmas.List.Quantifiers.{position-Some}
use Rattle.std.proofs.lemmas.List.Sums.{position_or_len_is, fails_before_first, passes_at_first}
use Rattle.std.proofs.lemmas.Bool.Decides.{nat_tests}
use Rattle.model.proofs.BoolLemmas.{either, both_parts}
use Rattle.jobs.specs.Rising.{with_number, without_number, rises}

at_least : (a b : ℕ) → nat_le a b ≡ true → a ≤ b
at_least a b t = grind (arith, nat_tests, t)

is_at_least : (a b : ℕ) → a ≤ b → nat_le a b ≡ true
is_at_least a b h = grind (arith, nat_tests, h)

-- each is at least the least that may be first
each_above : (least : ℕ) (ns : List ℕ) → rises least ns ≡ true → (j d : ℕ) → j < length ns → least ≤ get_or ns j d
unfolding rises
each_above least [] up j d below = absurd (omega (arith, below))
each_above least (n ∷ ns) up zero d below = at_least least n (both_parts (nat_le least n) (rises n ns) up).0
each_above least (n ∷ ns) up (suc j) d below =
    let parts = both_parts (nat_le least n) (rises n ns) up in
    let first : least ≤ n = at_least least n parts.0 in
    let rest : n ≤ get_or ns j d = each_above n ns parts.1 j d (omega (arith, below)) in
    omega (arith, first, rest)

pub never_falls : (least : ℕ) (ns : List ℕ) → rises least ns ≡ true → IsNonDecreasing ns
unfolding rises
never_falls least [] up i j d order below = absurd (omega (arith, below))
never_falls least (n ∷ ns) up zero zero d order below = omega arith
never_falls least (n ∷ ns) up zero (suc j) d order below =
    each_above n ns (both_parts (nat_le least n) (rises n ns) up).1 j d (omega (arith, below))
never_falls least (n ∷ ns) up (suc i) zero d order below = absurd (omega (arith, order))
never_falls least (n ∷ ns) up (suc i) (suc j) d order below =
    never_falls n ns (both_parts (nat_le least n) (rises n ns) up).1 i j d (omega (arith, order)) (omega (arith, below))

-- with a number more, and with one fewer, it rises
pub rises_with : (least m : ℕ) (ns : List ℕ) → least ≤ m → rises least ns ≡ true → rises least (with_number m ns) ≡ true
unfolding rises with_number
rises_with least m [] low up = rw (is_at_least least m low) refl
rises_with least m (n ∷ ns) low up =
    let parts = both_parts (nat_le least n) (rises n ns) up in
    elim (either (nat_lt m n)) [
      | inl t ↦ (let under : m ≤ n = grind (arith, nat_tests, t) in rw (t, is_at_least least m low, is_at_least m n under) parts.1)
      | inr f ↦ (let over : n ≤ m = grind (arith, nat_tests, f) in rw (f, parts.0) (rises_with n m ns over parts.1))
    ]

rises_from : (least more : ℕ) (ns : List ℕ) → least ≤ more → rises more ns ≡ true → rises least ns ≡ true
unfolding rises
rises_from least more [] low up = refl
rises_from least more (n ∷ ns) low up =
    let parts = both_parts (nat_le more n) (rises n ns) up in
    let first : more ≤ n = at_least more n parts.0 in
    rw (is_at_least least n (omega (arith, low, first))) parts.1

pub rises_without : (least m : ℕ) (ns : List ℕ) → rises least ns ≡ true → rises least (without_number m ns) ≡ true
unfolding rises without_number
rises_without least m [] up = refl
rises_without least m (n ∷ ns) up =
    let parts = both_parts (nat_le least n) (rises n ns) up in
    elim (either (n == m)) [
      | inl t ↦ rw t (rises_from least n ns (at_least least n parts.0) parts.1)
      | inr f ↦ rw (f, parts.0) (rises_without n m ns parts.1)
    ]

-- the place that parts a list by a test is the first that fails it
pub parted_at : (p q : ℕ → Bool) (ns : List ℕ) (i : ℕ) → ((n : ℕ) → p n ≡ true → q n ≡ false) → ((n : ℕ) → p n ≡ false → q n ≡ true) → i ≤ length ns
    → IsPartitionPoint (λ n. p n ≡ true) (λ n. p n ≡ false) ns i → i ≡ position_or_len q ns
parted_at p q ns i fails passes bound parted =
    sym (position_or_len_is q ns i 0 bound (λ k below. fails (get_or ns k 0) (parted.0 k 0 (omega arith) below))
    (λ below. passes (get_or ns i 0) (parted.1 i 0 (omega arith) below)))

-- ---- where a number is

place_or : (p : ℕ → Bool) (ns : List ℕ) (i : ℕ) → i < length ns → p (get_or ns i 0) ≡ true
    → ((k : ℕ) → k < i → p (get_or ns k 0) ≡ false) → position p ns ≡ Some i
place_or p ns i below here before =
    let is : position_or_len p ns ≡ i = position_or_len_is p ns i 0 (omega (arith, below)) before (λ _. here) in
    let within : nat_lt i (length ns) ≡ true = grind (arith, nat_tests, below) in
    rw (is, within) refl

none_there : (p : ℕ → Bool) (ns : List ℕ) → ((k : ℕ) → k < length ns → p (get_or ns k 0) ≡ false) → position p ns ≡ None
none_there p ns fails =
    let is : position_or_len p ns ≡ length ns =
    position_or_len_is p ns (length ns) 0 (omega arith) fails (λ wrong. absurd (omega (arith, wrong))) in
    let past : nat_lt (length ns) (length ns) ≡ false = grind (arith, nat_tests) in
    rw (is, past) refl

below_first : (m i : ℕ) (ns : List ℕ) → i ≡ position_or_len (λ n. nat_le m n) ns → (k : ℕ) → k < i → (get_or ns k 0 == m) ≡ false
below_first m i ns is k before =
    let under : nat_le m (get_or ns k 0) ≡ false = fails_before_first (λ n. nat_le m n) ns k 0 (omega (arith, is, before)) in
    grind (arith, nat_tests, under)

pub found_there : (m i : ℕ) (ns : List ℕ) → i ≡ position_or_len (λ n. nat_le m n) ns → i < length ns → get_or ns i 0 ≡ m
    → Some i ≡ position (λ n. n == m) ns
found_there m i ns is below here =
    let same : (get_or ns i 0 == m) ≡ true = grind (arith, nat_tests, here) in
    sym (place_or (λ n. n == m) ns i below same (below_first m i ns is))

pub not_there_at_all : (m i : ℕ) (ns : List ℕ) → rises 0 ns ≡ true → i ≡ position_or_len (λ n. nat_le m n) ns → (i < length ns → get_or ns i 0 ≢ m)
    → None ≡ position (λ n. n == m) ns
not_there_at_all m i ns up is other = sym (none_there (λ n. n == m) ns each)
  where
    each : (k : ℕ) → k < length ns → (get_or ns k 0 == m) ≡ false
    each k below = elim (either (nat_lt k i)) [
      | inl t ↦ below_first m i ns is k (grind (arith, nat_tests, t))
      | inr f ↦
          let from : i ≤ k = grind (arith, nat_tests, f) in
          let within : i < length ns = omega (arith, from, below) in
          let over : nat_le m (get_or ns i 0) ≡ true =
          ap (λ j. nat_le m (get_or ns j 0)) is ∙ passes_at_first (λ n. nat_le m n) ns 0 (omega (arith, is, within)) in
          let least : m ≤ get_or ns i 0 = at_least m (get_or ns i 0) over in
          let order : get_or ns i 0 ≤ get_or ns k 0 = never_falls 0 ns up i k 0 from below in
          elim (either (get_or ns k 0 == m)) [
            | inl same ↦
                let is_it : get_or ns k 0 ≡ m = grind (arith, nat_tests, same) in
                absurd (other within (omega (arith, is_it, least, order)))
            | inr differs ↦ differs
          ]
    ]

-- ---- a number put in at its place, and taken out

one_more : (m : ℕ) → 1 + m ≡ suc m
one_more m = omega arith

inserted : (m : ℕ) (ns : List ℕ) → insert ns (position_or_len (λ n. nat_lt m n) ns) m ≡ with_number m ns
unfolding with_number
inserted m [] = refl
inserted m (n ∷ ns) = elim (either (nat_lt m n)) [
  | inl t ↦ rw t refl
  | inr f ↦ rw (f, one_more (position_or_len (λ n. nat_lt m n) ns)) (ap (λ r. n ∷ r) (inserted m ns))
]

pub insert_number : (m i : ℕ) (ns : List ℕ) → i ≡ position_or_len (λ n. nat_lt m n) ns → insert ns i m ≡ with_number m ns
insert_number m i ns is = ap (λ j. insert ns j m) is ∙ inserted m ns

pub place_within : (p : ℕ → Bool) (i : ℕ) (ns : List ℕ) → i ≡ position_or_len p ns → i ≤ length ns
place_within p i [] is = omega (arith, is)
place_within p i (n ∷ ns) is = elim (either (p n)) [
  | inl t ↦ (let here : i ≡ 0 = rw t at is in omega (arith, here))
  | inr f ↦
      let there : i ≡ 1 + position_or_len p ns = rw f at is in
      let rest : position_or_len p ns ≤ length ns = place_within p (position_or_len p ns) ns refl in
      omega (arith, there, rest)
]

-- whether a number was put in or not, the list rises
pub rises_so : (b : Bool) (m i : ℕ) (ns : List ℕ) → rises 0 ns ≡ true → i ≡ position_or_len (λ n. nat_lt m n) ns
    → rises 0 (if b then insert ns i m else ns) ≡ true
rises_so true m i ns up is = ap (rises 0) (insert_number m i ns is) ∙ rises_with 0 m ns (omega arith) up
rises_so false m i ns up is = up

pub rises_none : rises 0 [] ≡ true
unfolding rises
rises_none = refl

pub rises_one : (m : ℕ) → rises 0 (m ∷ []) ≡ true
unfolding rises
rises_one m = rw (is_at_least 0 m (omega arith)) refl

remove_number : (m : ℕ) (ns : List ℕ) → position_or_len (λ n. n == m) ns < length ns → remove ns (position_or_len (λ n. n == m) ns) ≡ without_number m ns
unfolding without_number
remove_number m [] h = absurd (omega arith)
remove_number m (n ∷ ns) h = elim (either (n == m)) [
  | inl t ↦ rw t refl
  | inr f ↦
      let below : 1 + position_or_len (λ n. n == m) ns < suc (length ns) = rw f at h in
      rw (f, one_more (position_or_len (λ n. n == m) ns)) (ap (λ r. n ∷ r) (remove_number m ns (omega arith)))
]

place_is : (p : ℕ → Bool) (ns : List ℕ) (i : ℕ) → position p ns ≡ Some i → position_or_len p ns ≡ i
place_is p ns i e =
    let found = position-Some p ns i 0 e in
    position_or_len_is p ns i 0 (omega (arith, found.0)) found.2 (λ _. found.1)

past_end : (p : ℕ → Bool) (ns : List ℕ) → position p ns ≡ None → length ns ≤ position_or_len p ns
past_end p ns e = elim (either (nat_lt (position_or_len p ns) (length ns))) [
  | inl t ↦ let wrong = rw t at e in absurd (cc)
  | inr f ↦ grind (arith, nat_tests, f)
]

pub remove_at : (m : ℕ) (ns : List ℕ) (i : ℕ) → position (λ n. n == m) ns ≡ Some i → remove ns i ≡ without_number m ns
remove_at m ns i e =
    let is : position_or_len (λ n. n == m) ns ≡ i = place_is (λ n. n == m) ns i e in
    let below : i < length ns = (position-Some (λ n. n == m) ns i 0 e).0 in
    ap (remove ns) (sym is) ∙ remove_number m ns (rw is below)

remove_nothing : (m : ℕ) (ns : List ℕ) → length ns ≤ position_or_len (λ n. n == m) ns → ns ≡ without_number m ns
unfolding without_number
remove_nothing m [] h = refl
remove_nothing m (n ∷ ns) h = elim (either (n == m)) [
  | inl t ↦ let wrong : suc (length ns) ≤ 0 = rw t at h in absurd (omega arith)
  | inr f ↦
      let below : suc (length ns) ≤ 1 + position_or_len (λ n. n == m) ns = rw f at h in
      rw f (ap (λ r. n ∷ r) (remove_nothing m ns (omega arith)))
]

pub remove_none : (m : ℕ) (ns : List ℕ) → position (λ n. n == m) ns ≡ None → ns ≡ without_number m ns
remove_none m ns e = remove_nothing m ns (past_end (λ n. n == m) ns e)

-- what is put in, is put in
pub when_ok : {A E X : Type 0} (r : Result A E) (x y : X) → IsOk r → (if is_ok r then x else y) ≡ x
when_ok r x y h = rw h refl
