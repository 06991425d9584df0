-- Ascending lists: what a sort gives is the set of what was sorted.
use Rattle.std.proofs.Common.{◌≡◌, ℕ, suc, ◌+◌, ◌<◌, ◌≤◌, Bool, true, false, ◌||◌, ◌&&◌, not, ◌⊎◌, inl, inr, refl, sym, ◌∙◌, ap, subst, arith, List, [], ◌∷◌, ◌++◌, length, get_or}
use Rattle.std.specs.Prelude.{sum_by, if◌then◌else◌}
use Rattle.std.specs.Cmp.{IsStrictWeakOrder}
use Rattle.std.specs.List.Sorted.{IsPermutation, IsSortedBy}
use Rattle.std.proofs.lemmas.List.Sorted.{IsPermutation-sym, Contains-permutation, sum_by-IsPermutation, sorted_far}
use Rattle.std.proofs.lemmas.List.Sums.{sum_by-cons}
use Rattle.std.proofs.lemmas.Bool.{or_parts}
use Rattle.model.specs.Orders.{first_by, set_of}
use Rattle.model.proofs.BoolLemmas.{either}
use Rattle.laws.proofs.MemberLemmas.{In, in_of, contains_of, in_append, from_set, in_set}
use Rattle.laws.proofs.SetLemmas.{Ascends, clash, irreflexive, same_members, set_ascends}
use Rattle.records.specs.Plans.{IsApart, AreApart}

-- ---- orders

and_cases : (a b : Bool) → (not a && b) ≡ false → (a ≡ true) ⊎ ((a ≡ false) × (b ≡ false))
and_cases true b h = inl refl
and_cases false b h = inr (refl, h)

abbrev Weak : {X : Type 0} → (X → X → Bool) → Type 0
Weak before = IsStrictWeakOrder before

first_true : (a b c : Bool) → (a || (not b && c)) ≡ true → (a ≡ true) ⊎ ((a ≡ false) × (b ≡ false) × (c ≡ true))
first_true true b c h = inl refl
first_true false false c h = inr (refl, refl, h)
first_true false true c h = absurd (cc)

make_false : (a b c : Bool) → a ≡ false → (b ≡ true) ⊎ (c ≡ false) → (a || (not b && c)) ≡ false
make_false a b c e (inl t) = rw (e, t) refl
make_false a true c e (inr f) = rw e refl
make_false a false c e (inr f) = rw (e, f) refl

-- an order by two keys in turn
pub first_by-Weak : {X : Type 0} (one two : X → X → Bool) → IsStrictWeakOrder one → IsStrictWeakOrder two → IsStrictWeakOrder (first_by one two)
first_by-Weak {X} one two p q = record {
  one_way = λ x y h. elim (first_true (one x y) (one y x) (two x y) h) [
    | inl t ↦ make_false (one y x) (one x y) (two y x) (p.one_way x y t) (inl t)
    | inr f ↦ make_false (one y x) (one x y) (two y x) f.1 (inr (q.one_way x y f.2))
  ];
  chain = λ x y z h k.
      let a = or_parts (one x y) _ h in
      let b = or_parts (one y z) _ k in
      let first : one x z ≡ false = p.chain x y z a.0 b.0 in
      make_false (one x z) (one z x) (two x z) first (elim (either (one z x)) [
        | inl t ↦ inl t
        | inr f ↦ elim (and_cases (one y x) (two x y) a.1) [
          | inl t ↦ absurd (clash (one y x) t (p.chain y z x b.0 f))
          | inr g ↦ elim (and_cases (one z y) (two y z) b.1) [
            | inl t ↦ absurd (clash (one z y) t (p.chain z x y f a.0))
            | inr m ↦ inr (q.chain x y z g.1 m.1)
          ]
        ]
      ]);
}

-- ---- lists that lie in one another

-- a list with one member taken out
abbrev without : {X : Type 0} (x : X) (ys : List X) → In x ys → List X
without x [] h = absurd h
without x (y ∷ ys) h = elim h [ inl e ↦ ys | inr r ↦ y ∷ without x ys r ]

without_length : {X : Type 0} (x : X) (ys : List X) (h : In x ys) → length ys ≡ suc (length (without x ys h))
without_length x [] h = absurd h
without_length x (y ∷ ys) h = elim h as (λ k. suc (length ys) ≡ suc (length (without x (y ∷ ys) k)))
    [ inl e ↦ refl | inr r ↦ ap (λ n. suc n) (without_length x ys r) ]

without_has : {X : Type 0} (x z : X) (ys : List X) (h : In x ys) → In z ys → (x ≡ z → ⊥) → In z (without x ys h)
without_has x z [] h k n = absurd h
without_has x z (y ∷ ys) h k n = elim h as (λ h. In z (without x (y ∷ ys) h)) [
  | inl e ↦ elim k [ inl f ↦ absurd (n (sym e ∙ f)) | inr q ↦ q ]
  | inr r ↦ elim k [ inl f ↦ inl f | inr q ↦ inr (without_has x z ys r q n) ]
]

-- no member comes twice
abbrev pub Distinct : {X : Type 0} → List X → Type 0
Distinct [] = Unit {0}
Distinct {X = X} (x ∷ xs) = ((y : X) → In y xs → x ≡ y → ⊥) × Distinct xs

-- distinct members of a list are no more than it has
pub no_more : {X : Type 0} (xs ys : List X) → Distinct xs → ((x : X) → In x xs → In x ys) → length xs ≤ length ys
no_more [] ys d h = omega arith
no_more (x ∷ xs) ys d h =
    let there : In x ys = h x (inl refl) in
    let len : length ys ≡ suc (length (without x ys there)) = without_length x ys there in
    let rest : length xs ≤ length (without x ys there) = no_more xs (without x ys there) d.1 (λ z k. without_has x z ys there (h z (inr k)) (d.0 z k)) in
    omega (arith, len, rest)

-- ---- sorting

pub apart_push : {X : Type 0} (before : X → X → Bool) (xs : List X) (x : X) → AreApart before xs → ((y : X) → In y xs → IsApart before y x)
    → AreApart before (xs ++ x ∷ [])
apart_push before [] x a h = (λ y k. absurd k, tt)
apart_push before (z ∷ xs) x a h = (
  λ y k. elim (in_append y xs (x ∷ []) k)
      [ inl i ↦ a.0 y i | inr i ↦ elim i [ inl e ↦ subst (λ v. IsApart before z v) e (h z (inl refl)) | inr n ↦ absurd n ] ],
  apart_push before xs x a.1
      (λ y k. h y (inr k)),
)

ascends_apart : {X : Type 0} (before : X → X → Bool) (xs : List X) → Ascends before xs → AreApart before xs
ascends_apart before [] a = tt
ascends_apart before (x ∷ xs) a = (λ y h. inl (a.0 y h), ascends_apart before xs a.1)

pub apart_distinct : {X : Type 0} (before : X → X → Bool) → IsStrictWeakOrder before → (xs : List X) → AreApart before xs → Distinct xs
apart_distinct before w [] a = tt
apart_distinct before w (x ∷ xs) a = (
  λ y h e. elim (a.0 y h) [
    | inl t ↦ clash (before x x) (subst (λ v. before x v ≡ true) (sym e) t) (irreflexive before w x)
    | inr t ↦ clash (before x x) (subst (λ v. before v x ≡ true) (sym e) t) (irreflexive before w x)
  ],
  apart_distinct before w xs a.1,
)

abbrev one_if : Bool → ℕ
one_if b = if b then 1 else 0

-- neither goes before the other
abbrev ties : {X : Type 0} → (X → X → Bool) → X → X → Bool
ties before x y = not (before x y) && not (before y x)

abbrev count : {X : Type 0} → (X → X → Bool) → X → List X → ℕ
count before z xs = sum_by (λ x. one_if (ties before z x)) xs

count_cons : {X : Type 0} (before : X → X → Bool) (z x : X) (xs : List X) → count before z (x ∷ xs) ≡ one_if (ties before z x) + count before z xs
count_cons before z x xs = sum_by-cons (λ x. one_if (ties before z x)) x xs

ties_true : (a b : Bool) → (not a && not b) ≡ true → (a ≡ false) × (b ≡ false)
ties_true false false h = (refl, refl)
ties_true false true h = absurd (cc)
ties_true true b h = absurd (cc)

one_cases : (b : Bool) → (b ≡ true) ⊎ (one_if b ≡ 0)
one_cases true = inl refl
one_cases false = inr refl

-- of members that are parted none ties with what ties with one more
no_count : {X : Type 0} (before : X → X → Bool) → IsStrictWeakOrder before → (z x : X) (xs : List X) → ties before z x ≡ true
    → ((y : X) → In y xs → IsApart before x y) → count before z xs ≡ 0
no_count before w z x [] t a = refl
no_count before w z x (y ∷ xs) t a =
    let rest : count before z xs ≡ 0 = no_count before w z x xs t (λ v h. a v (inr h)) in
    let zx = ties_true (before z x) (before x z) t in
    let here : one_if (ties before z y) ≡ 0 = elim (one_cases (ties before z y)) [
      | inr n ↦ n
      | inl u ↦
          let zy = ties_true (before z y) (before y z) u in
          elim (a y (inl refl)) [
            | inl b ↦ absurd (clash (before x y) b (w.chain x z y zx.1 zy.0))
            | inr b ↦ absurd (clash (before y x) b (w.chain y z x zy.1 zx.0))
          ]
    ] in
    omega (arith, count_cons before z y xs, rest, here)

-- members that are parted tie with a thing at most once
few : {X : Type 0} (before : X → X → Bool) → IsStrictWeakOrder before → (z : X) (xs : List X) → AreApart before xs → count before z xs < 2
few before w z [] a = omega arith
few before w z (x ∷ xs) a = elim (one_cases (ties before z x)) [
  | inl t ↦ (let e : one_if (ties before z x) ≡ 1 = rw t refl in omega (arith, count_cons before z x xs, no_count before w z x xs t a.0, e))
  | inr n ↦ omega (arith, count_cons before z x xs, few before w z xs a.1, n)
]

tie_counts : {X : Type 0} (before : X → X → Bool) (z x : X) (xs : List X) → In x xs → ties before z x ≡ true → 0 < count before z xs
tie_counts before z x [] h t = absurd h
tie_counts before z x (y ∷ xs) h t = elim h [
  | inl e ↦ (let one : one_if (ties before z y) ≡ 1 = rw (ap (λ v. ties before z v) e ∙ t) refl in omega (arith, count_cons before z y xs, one))
  | inr r ↦ omega (arith, count_cons before z y xs, tie_counts before z x xs r t)
]

-- no member goes before one that is further to the front
abbrev Rises : {X : Type 0} → (X → X → Bool) → List X → Type 0
Rises {X = X} before xs = (i j : ℕ) (d : X) → i ≤ j → j < length xs → before (get_or xs j d) (get_or xs i d) ≡ false

not_before : {X : Type 0} (before : X → X → Bool) (x : X) (xs : List X) → ((k : ℕ) (d : X) → k < length xs → before (get_or xs k d) x ≡ false) → (y : X)
    → In y xs → before y x ≡ false
not_before before x [] h y i = absurd i
not_before before x (z ∷ xs) h y i = elim i [
  | inl e ↦ subst (λ v. before v x ≡ false) e (h 0 z (omega arith))
  | inr r ↦ not_before before x xs (λ k d l. h (suc k) d (omega arith)) y r
]

ascends_from_rises : {X : Type 0} (before : X → X → Bool) → IsStrictWeakOrder before → (ys : List X) → ((z : X) → count before z ys < 2) → Rises before ys
    → Ascends before ys
ascends_from_rises before w [] f h = tt
ascends_from_rises before w (y ∷ ys) f h = (
  λ z i. elim (either (before y z)) [
    | inl t ↦ t
    | inr n ↦
        let m : before z y ≡ false = not_before before y ys (λ k d l. h 0 (suc k) d (omega arith) (omega arith)) z i in
        let self : one_if (ties before y y) ≡ 1 = rw (irreflexive before w y) refl in
        let tie : ties before y z ≡ true = rw (n, m) refl in
        absurd (omega (arith, f y, count_cons before y y ys, self, tie_counts before y z ys i tie))
  ],
  ascends_from_rises before w ys (λ z. omega (arith, f z, count_cons before z y ys)) (λ i j d le lt. h (suc i) (suc j) d (omega arith) (omega arith)),
)

-- a sort of members that are parted ascends
pub sorted_ascends : {X : Type 0} (before : X → X → Bool) → IsStrictWeakOrder before → (xs ys : List X) → AreApart before xs → IsPermutation xs ys
    → IsSortedBy before ys → Ascends before ys
sorted_ascends before w xs ys a moved up =
    ascends_from_rises before w ys
    (λ z. omega (arith, few before w z xs a, sum_by-IsPermutation (λ x. one_if (ties before z x)) xs ys moved))
    (sorted_far before w ys up)

-- a sort of members that are parted is their set
apart_same : {X : Type 0} (before : X → X → Bool) (xs : List X) (x y : X) → AreApart before xs → In x xs → In y xs → (x ≡ y) ⊎ IsApart before x y
apart_same before [] x y a h k = absurd h
apart_same before (z ∷ xs) x y a h k = elim h [
  | inl e ↦ elim k [
    | inl f ↦ inl (sym e ∙ f)
    | inr q ↦ inr (subst (λ v. IsApart before v y) e (a.0 y q))
  ]
  | inr r ↦ elim k [
    | inl f ↦ inr (subst (λ v. IsApart before x v) f (elim (a.0 x r) [ inl t ↦ inr t | inr t ↦ inl t ]))
    | inr q ↦ apart_same before xs x y a.1 r q
  ]
]

pub sorted_set : {X : Type 0} (before : X → X → Bool) → IsStrictWeakOrder before → (xs ys : List X) → AreApart before xs → IsPermutation xs ys
    → IsSortedBy before ys → ys ≡ set_of before xs
sorted_set before w xs ys a moved up =
    same_members before w ys (set_of before xs) (sorted_ascends before w xs ys a moved up) (set_ascends before w xs)
    (λ z h.
    let i = in_of xs z (Contains-permutation ys xs z (IsPermutation-sym xs ys moved) (contains_of ys z h)) in
    let v = in_set before z xs i in
    elim v.2 [
      | inl e ↦ subst (λ u. In u (set_of before xs)) (sym e) v.1
      | inr tie ↦ elim (apart_same before xs z v.0 a i (from_set before v.0 xs v.1)) [
        | inl e ↦ subst (λ u. In u (set_of before xs)) (sym e) v.1
        | inr apart ↦ elim apart [ inl t ↦ absurd (clash (before z v.0) t tie.0) | inr t ↦ absurd (clash (before v.0 z) t tie.1) ]
      ]
    ])
    (λ z h. in_of ys z (Contains-permutation xs ys z moved (contains_of xs z (from_set before z xs h))))
