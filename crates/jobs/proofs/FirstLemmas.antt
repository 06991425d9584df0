-- The numbers of those goals that are the first of their kind, when one goal comes to pass the test, or passes it no more.
use Rattle.std.proofs.Common.{◌≡◌, ◌≢◌, ℕ, zero, suc, ◌+◌, ◌<◌, ◌≤◌, Bool, true, false, ◌⊎◌, inl, inr, List, [], ◌∷◌, ◌++◌, length, refl, sym, ◌∙◌, ap, arith, Some, None}
use Rattle.std.specs.Prelude.{slice_get, slice_set, nat_lt, ◌==◌, not, ◌&&◌, ◌||◌}
use Rattle.std.specs.List.{find}
use Rattle.std.specs.Cmp.{IsPartialEquivalence, per_alike}
use Rattle.std.proofs.lemmas.Bool.Decides.{nat_tests}
use Rattle.model.specs.Worlds.{Goal}
use Rattle.model.proofs.BoolLemmas.{either}
use Rattle.jobs.specs.Rising.{with_number, without_number}
use Rattle.jobs.specs.Numbers.{numbers, firsts}

same_number : (k : ℕ) → (k == k) ≡ true
same_number k = grind (arith, nat_tests)

apart : (k m : ℕ) → k < m → (k == m) ≡ false
apart k m h = grind (arith, nat_tests)

lower : (k m : ℕ) → k < m → nat_lt k m ≡ true
lower k m h = grind (arith, nat_tests)

not_lower : (k m : ℕ) → k < m → nat_lt m k ≡ false
not_lower k m h = grind (arith, nat_tests)

some_is : {X : Type 0} (x y : X) → Some x ≡ Some y → x ≡ y
some_is x y e = cc

still_out : (a b c : Bool) → (a && not b) ≡ false → (a && not (c || b)) ≡ false
still_out true true true f = refl
still_out true true false f = refl
still_out true false c f = cc
still_out false b c f = refl

seen_out : (a b : Bool) → b ≡ true → (a && not b) ≡ false
seen_out true b t = rw t refl
seen_out false b t = refl

in_parts : (a b : Bool) → (a && not b) ≡ true → (a ≡ true) × (b ≡ false)
in_parts true true t = cc
in_parts true false t = (refl, refl)
in_parts false b t = cc

swapped : (a b c : Bool) → (a || (b || c)) ≡ (b || (a || c))
swapped true true c = refl
swapped true false c = refl
swapped false true c = refl
swapped false false c = refl

module _ (d : Goal → Bool) (alike : Goal → Goal → Bool) (laws : IsPartialEquivalence alike) where
  abbrev pub listed : (Goal → Bool) → ℕ → List Goal → List ℕ
  listed seen k gs = firsts (λ n g. d g) alike seen k gs

  -- those that are seen already, and those that are like another one
  abbrev pub more : Goal → (Goal → Bool) → Goal → Bool
  more x seen = λ z. alike x z || seen z

  abbrev pub is_new : (Goal → Bool) → Goal → Bool
  is_new seen x = d x && not (seen x)

  same_seen : (s t : Goal → Bool) (k : ℕ) (gs : List Goal) → ((x : Goal) → s x ≡ t x) → listed s k gs ≡ listed t k gs
  same_seen s t k gs same = ap (λ (f : Goal → Bool). listed f k gs) (λ i x. same x i)

  above : (s : Goal → Bool) (m j : ℕ) (gs : List Goal) → m < j → with_number m (listed s j gs) ≡ m ∷ listed s j gs
  unfolding firsts with_number
  above s m j [] h = refl
  above s m j (x ∷ xs) h = elim (either (is_new s x)) [
    | inl t ↦ rw (t, lower m j h) refl
    | inr f ↦ rw f (above s m (suc j) xs (omega arith))
  ]

  -- one that is not listed is another one that is not
  pub out_set : (s : Goal → Bool) (u v : Goal) (k i : ℕ) (gs : List Goal) → slice_get gs i ≡ Some u → is_new s u ≡ false → is_new s v ≡ false
      → listed s k (slice_set gs i v) ≡ listed s k gs
  unfolding firsts
  out_set s u v k i [] at out_u out_v = refl
  out_set s u v k zero (x ∷ xs) at out_u out_v =
      let is : x ≡ u = some_is x u at in
      let out_x : is_new s x ≡ false = ap (is_new s) is ∙ out_u in
      rw (out_x, out_v) refl
  out_set s u v k (suc i) (x ∷ xs) at out_u out_v = elim (either (is_new s x)) [
    | inl t ↦ rw t (ap (λ r. k ∷ r)
        (out_set (more x s) u v (suc k) i xs at (still_out (d u) (s u) (alike x u) out_u) (still_out (d v) (s v) (alike x v) out_v)))
    | inr f ↦ rw f (out_set s u v (suc k) i xs at out_u out_v)
  ]

  -- ---- one is seen that was not

  module _ (y : Goal) (p : ℕ → Bool) where
    none_seen : (s : Goal → Bool) (k : ℕ) (xs : List Goal) → ((i : ℕ) (x : Goal) → slice_get xs i ≡ Some x → p (k + i) ≡ alike x y)
        → find p (listed s k xs) ≡ None → listed (more y s) k xs ≡ listed s k xs
    unfolding firsts
    none_seen s k [] at none = refl
    none_seen s k (x ∷ xs) at none =
        let first : k + zero ≡ k = omega arith in
        let next : (i : ℕ) → suc k + i ≡ k + suc i = λ i. (omega arith) in
        let here : p k ≡ alike x y = ap p (sym first) ∙ at zero x refl in
        let rest : (i : ℕ) (z : Goal) → slice_get xs i ≡ Some z → p (suc k + i) ≡ alike z y = λ i z there. ap p (next i) ∙ at (suc i) z there in
        elim (either (is_new s x)) [
          | inl t ↦ elim (either (alike x y)) [
            | inl a ↦ let found : p k ≡ true = here ∙ a in (let wrong = rw (t, found) at none in absurd (cc))
            | inr b ↦
                let skips : p k ≡ false = here ∙ b in
                let left : find p (listed (more x s) (suc k) xs) ≡ None = rw (t, skips) at none in
                let back : alike y x ≡ false = laws.symm y x ∙ b in
                rw (t, back, t) (ap (λ r. k ∷ r)
                (same_seen (more x (more y s)) (more y (more x s)) (suc k) xs (λ z. swapped (alike x z) (alike y z) (s z))
                ∙ none_seen (more x s) (suc k) xs rest left))
          ]
          | inr f ↦ rw (f, still_out (d x) (s x) (alike y x) f) (none_seen s (suc k) xs rest (rw f at none))
        ]

    one_seen : (s : Goal → Bool) (k : ℕ) (xs : List Goal) (r : ℕ) → ((i : ℕ) (x : Goal) → slice_get xs i ≡ Some x → p (k + i) ≡ alike x y)
        → find p (listed s k xs) ≡ Some r
        → (k ≤ r) × (listed (more y s) k xs ≡ without_number r (listed s k xs)) × (listed s k xs ≡ with_number r (listed (more y s) k xs))
    unfolding firsts with_number without_number
    one_seen s k [] r at is = cc
    one_seen s k (x ∷ xs) r at is =
        let first : k + zero ≡ k = omega arith in
        let next : (i : ℕ) → suc k + i ≡ k + suc i = λ i. (omega arith) in
        let here : p k ≡ alike x y = ap p (sym first) ∙ at zero x refl in
        let rest : (i : ℕ) (z : Goal) → slice_get xs i ≡ Some z → p (suc k + i) ≡ alike z y = λ i z there. ap p (next i) ∙ at (suc i) z there in
        elim (either (is_new s x)) [
          | inl t ↦ elim (either (alike x y)) [
            | inl a ↦
                let found : p k ≡ true = here ∙ a in
                let this : k ≡ r = some_is k r (rw (t, found) at is) in
                let back : alike y x ≡ true = laws.symm y x ∙ a in
                let out : is_new (more y s) x ≡ false = rw back (seen_out (d x) true refl) in
                let same : listed (more y s) (suc k) xs ≡ listed (more x s) (suc k) xs =
                same_seen (more y s) (more x s) (suc k) xs (λ z. ap (λ b. b || s z) (sym (per_alike laws x y z a))) in (
                  omega (arith, this),
                  rw (t, out, ← this, same_number k) same,
                  rw (t, out, ← this) (ap (λ r. k ∷ r) (sym same) ∙ sym (above (more y s) k (suc k) xs (omega arith))),
                )
            | inr b ↦
                let skips : p k ≡ false = here ∙ b in
                let left : find p (listed (more x s) (suc k) xs) ≡ Some r = rw (t, skips) at is in
                let back : alike y x ≡ false = laws.symm y x ∙ b in
                let so = one_seen (more x s) (suc k) xs r rest left in
                let turn : listed (more x (more y s)) (suc k) xs ≡ listed (more y (more x s)) (suc k) xs =
                same_seen (more x (more y s)) (more y (more x s)) (suc k) xs (λ z. swapped (alike x z) (alike y z) (s z)) in
                let later : k < r = (let above = so.0 in omega (arith, above)) in (
                  omega (arith, later),
                  rw (t, back, t, apart k r later) (ap (λ l. k ∷ l) (turn ∙ so.1)),
                  rw (t, back, t, not_lower k r later) (ap (λ l. k ∷ l) (so.2 ∙ ap (with_number r) (sym turn))),
                )
          ]
          | inr f ↦
              let so = one_seen s (suc k) xs r rest (rw f at is) in
              let out = still_out (d x) (s x) (alike y x) f in
              ((let above = so.0 in omega (arith, above)), rw (f, out) so.1, rw (f, out) so.2)
        ]

    -- the first that is like one not seen yet is found among those that are listed
    pub found_first : (u : ℕ → Goal → Bool) (s : Goal → Bool) (k : ℕ) (xs : List Goal)
        → ((n : ℕ) (x : Goal) → d x ≡ true → u n x ≡ true) → ((x : Goal) → alike x y ≡ true → (d x ≡ true) × (s x ≡ false))
        → ((i : ℕ) (x : Goal) → slice_get xs i ≡ Some x → p (k + i) ≡ alike x y)
        → find p (numbers u k xs) ≡ find p (listed s k xs)
    unfolding firsts numbers
    found_first u s k [] within fresh at = refl
    found_first u s k (x ∷ xs) within fresh at =
        let first : k + zero ≡ k = omega arith in
        let next : (i : ℕ) → suc k + i ≡ k + suc i = λ i. (omega arith) in
        let here : p k ≡ alike x y = ap p (sym first) ∙ at zero x refl in
        let rest : (i : ℕ) (z : Goal) → slice_get xs i ≡ Some z → p (suc k + i) ≡ alike z y = λ i z there. ap p (next i) ∙ at (suc i) z there in
        elim (either (alike x y)) [
          | inl a ↦
              let passes : p k ≡ true = here ∙ a in
              let done : d x ≡ true = (fresh x a).0 in
              let unseen : s x ≡ false = (fresh x a).1 in
              rw (within k x done, done, unseen, passes) refl
          | inr b ↦
              let skips : p k ≡ false = here ∙ b in
              let apart_still : (z : Goal) → alike z y ≡ true → (d z ≡ true) × (more x s z ≡ false) =
              λ z a. ((fresh z a).0, rw (other x z b a, (fresh z a).1) refl) in
              elim (either (is_new s x)) [
                | inl t ↦ rw (t, within k x (in_parts (d x) (s x) t).0, skips) (found_first u (more x s) (suc k) xs within apart_still rest)
                | inr f ↦ elim (either (u k x)) [
                  | inl v ↦ rw (f, v, skips) (found_first u s (suc k) xs within fresh rest)
                  | inr w ↦ rw (f, w) (found_first u s (suc k) xs within fresh rest)
                ]
              ]
        ]
      where
        other : (x z : Goal) → alike x y ≡ false → alike z y ≡ true → alike x z ≡ false
        other x z b a = elim (either (alike x z)) [
          | inl t ↦ let no = sym (laws.trans x z y t a) ∙ b in absurd (cc)
          | inr f ↦ f
        ]

    -- ---- one is listed that was not, or is listed no more

    module _ (g : Goal) (passes : d y ≡ true) (fails : d g ≡ false) where
      -- where none is like it
      pub shift_none : (s : Goal → Bool) (k m i : ℕ) (gs : List Goal) → slice_get gs i ≡ Some g → m ≡ k + i → s y ≡ false
          → ((j : ℕ) (x : Goal) → slice_get gs j ≡ Some x → j ≢ i → p (k + j) ≡ alike x y)
          → find p (listed s k gs) ≡ None
          → (listed s k (slice_set gs i y) ≡ with_number m (listed s k gs)) × (listed s k gs ≡ without_number m (listed s k (slice_set gs i y)))
      unfolding firsts with_number without_number
      shift_none s k m i [] at is unseen alike_at none = cc
      shift_none s k m zero (x ∷ xs) at is unseen alike_at none =
          let this : m ≡ k = omega arith in
          let same : x ≡ g = some_is x g at in
          let next : (i : ℕ) → suc k + i ≡ k + suc i = λ i. (omega arith) in
          let rest : (i : ℕ) (z : Goal) → slice_get xs i ≡ Some z → p (suc k + i) ≡ alike z y =
          λ i z there. ap p (next i) ∙ alike_at (suc i) z there (λ e. absurd (cc)) in
          let fails_x : d x ≡ false = ap d same ∙ fails in
          let stays : listed (more y s) (suc k) xs ≡ listed s (suc k) xs = none_seen s (suc k) xs rest (rw fails_x at none) in (
            rw (fails_x, passes, unseen, this) (ap (λ l. k ∷ l) stays ∙ sym (above s k (suc k) xs (omega arith))),
            rw (fails_x, passes, unseen, this, same_number k) (sym stays),
          )
      shift_none s k m (suc i) (x ∷ xs) at is unseen alike_at none =
          let first : k + zero ≡ k = omega arith in
          let next : (i : ℕ) → suc k + i ≡ k + suc i = λ i. (omega arith) in
          let here : p k ≡ alike x y = ap p (sym first) ∙ alike_at zero x refl (λ e. absurd (cc)) in
          let rest : (j : ℕ) (z : Goal) → slice_get xs j ≡ Some z → j ≢ i → p (suc k + j) ≡ alike z y =
          λ j z there other. ap p (next j) ∙ alike_at (suc j) z there (λ e. other (tail_number j i e)) in
          let later : k < m = omega (arith, is) in
          elim (either (is_new s x)) [
            | inl t ↦ elim (either (alike x y)) [
              | inl a ↦ let found : p k ≡ true = here ∙ a in (let wrong = rw (t, found) at none in absurd (cc))
              | inr b ↦
                  let skips : p k ≡ false = here ∙ b in
                  let still : more x s y ≡ false = rw (b, unseen) refl in
                  let so = shift_none (more x s) (suc k) m i xs at (omega (arith, is)) still rest (rw (t, skips) at none) in
                  (rw (t, not_lower k m later) (ap (λ l. k ∷ l) so.0), rw (t, apart k m later) (ap (λ l. k ∷ l) so.1))
            ]
            | inr f ↦
                let so = shift_none s (suc k) m i xs at (omega (arith, is)) unseen rest (rw f at none) in
                (rw f so.0, rw f so.1)
          ]
        where
          tail_number : (j i : ℕ) → suc j ≡ suc i → j ≡ i
          tail_number j i e = omega (arith, e)

      -- where one before it is like it, and where one behind it is
      pub shift_some : (s : Goal → Bool) (k m i r : ℕ) (gs : List Goal) → slice_get gs i ≡ Some g → m ≡ k + i → s y ≡ false
          → ((j : ℕ) (x : Goal) → slice_get gs j ≡ Some x → j ≢ i → p (k + j) ≡ alike x y)
          → find p (listed s k gs) ≡ Some r
          → ((r < m) × (listed s k (slice_set gs i y) ≡ listed s k gs))
          ⊎ ((m < r) × (listed s k (slice_set gs i y) ≡ with_number m (without_number r (listed s k gs)))
          × (listed s k gs ≡ with_number r (without_number m (listed s k (slice_set gs i y)))))
      unfolding firsts with_number without_number
      shift_some s k m i r [] at is unseen alike_at found = cc
      shift_some s k m zero r (x ∷ xs) at is unseen alike_at found =
          let this : m ≡ k = omega arith in
          let same : x ≡ g = some_is x g at in
          let next : (i : ℕ) → suc k + i ≡ k + suc i = λ i. (omega arith) in
          let rest : (i : ℕ) (z : Goal) → slice_get xs i ≡ Some z → p (suc k + i) ≡ alike z y =
          λ i z there. ap p (next i) ∙ alike_at (suc i) z there (λ e. absurd (cc)) in
          let fails_x : d x ≡ false = ap d same ∙ fails in
          let so = one_seen s (suc k) xs r rest (rw fails_x at found) in
          let behind : suc k ≤ r = so.0 in
          inr (
            omega (arith, this, behind),
            rw (fails_x, passes, unseen, this) (sym (above (more y s) k (suc k) xs (omega arith)) ∙ ap (with_number k) so.1),
            rw (fails_x, passes, unseen, this, same_number k) so.2,
          )
      shift_some s k m (suc i) r (x ∷ xs) at is unseen alike_at found =
          let first : k + zero ≡ k = omega arith in
          let next : (i : ℕ) → suc k + i ≡ k + suc i = λ i. (omega arith) in
          let here : p k ≡ alike x y = ap p (sym first) ∙ alike_at zero x refl (λ e. absurd (cc)) in
          let rest : (j : ℕ) (z : Goal) → slice_get xs j ≡ Some z → j ≢ i → p (suc k + j) ≡ alike z y =
          λ j z there other. ap p (next j) ∙ alike_at (suc j) z there (λ e. other (tail_number j i e)) in
          let later : k < m = omega (arith, is) in
          elim (either (is_new s x)) [
            | inl t ↦ elim (either (alike x y)) [
              | inl a ↦
                  let passes_here : p k ≡ true = here ∙ a in
                  let this : k ≡ r = some_is k r (rw (t, passes_here) at found) in
                  let seen : more x s y ≡ true = rw a refl in
                  inl (
                    omega (arith, this, later),
                    rw t (ap (λ l. k ∷ l) (out_set (more x s) g y (suc k) i xs at (rw fails refl) (seen_out (d y) (more x s y) seen))),
                  )
              | inr b ↦
                  let skips : p k ≡ false = here ∙ b in
                  let still : more x s y ≡ false = rw (b, unseen) refl in
                  let after : find p (listed (more x s) (suc k) xs) ≡ Some r = rw (t, skips) at found in
                  elim (shift_some (more x s) (suc k) m i r xs at (omega (arith, is)) still rest after) [
                    | inl so ↦ inl (so.0, rw t (ap (λ l. k ∷ l) so.1))
                    | inr so ↦
                        let behind : m < r = so.0 in
                        let far : k < r = omega (arith, later, behind) in
                        inr (
                          so.0,
                          rw (t, apart k r far, not_lower k m later) (ap (λ l. k ∷ l) so.1),
                          rw (t, apart k m later, not_lower k r far) (ap (λ l. k ∷ l) so.2),
                        )
                  ]
            ]
            | inr f ↦ elim (shift_some s (suc k) m i r xs at (omega (arith, is)) unseen rest (rw f at found)) [
              | inl so ↦ inl (so.0, rw f so.1)
              | inr so ↦ inr (so.0, rw f so.1, rw f so.2)
            ]
          ]
        where
          tail_number : (j i : ℕ) → suc j ≡ suc i → j ≡ i
          tail_number j i e = omega (arith, e)

  -- ---- how many they are

  -- no more than pass another test that is passed wherever the first is
  pub fewer_first : (u : ℕ → Goal → Bool) → ((n : ℕ) (x : Goal) → d x ≡ true → u n x ≡ true) → (s : Goal → Bool) (k : ℕ) (gs : List Goal)
      → length (listed s k gs) ≤ length (numbers u k gs)
  unfolding firsts numbers
  fewer_first u within s k [] = omega arith
  fewer_first u within s k (x ∷ xs) = elim (either (is_new s x)) [
    | inl t ↦
        let rest : length (listed (more x s) (suc k) xs) ≤ length (numbers u (suc k) xs) = fewer_first u within (more x s) (suc k) xs in
        rw (t, within k x (in_parts (d x) (s x) t).0) (omega (arith, rest))
    | inr f ↦
        let rest : length (listed s (suc k) xs) ≤ length (numbers u (suc k) xs) = fewer_first u within s (suc k) xs in
        elim (either (u k x)) [
          | inl v ↦ rw (f, v) (omega (arith, rest))
          | inr w ↦ rw (f, w) rest
        ]
  ]

  -- one more behind them, which is not listed
  pub first_pushed : (s : Goal → Bool) (k : ℕ) (gs : List Goal) (y : Goal) → d y ≡ false → listed s k (gs ++ y ∷ []) ≡ listed s k gs
  unfolding firsts
  first_pushed s k [] y fail = rw fail refl
  first_pushed s k (x ∷ xs) y fail = elim (either (is_new s x)) [
    | inl t ↦ rw t (ap (λ r. k ∷ r) (first_pushed (more x s) (suc k) xs y fail))
    | inr f ↦ rw f (first_pushed s (suc k) xs y fail)
  ]
