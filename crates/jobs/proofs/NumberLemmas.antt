-- The numbers of goals that pass a test, when one goal changes.
use Rattle.std.proofs.Common.{◌≡◌, ℕ, zero, suc, ◌+◌, ◌-◌, ◌<◌, ◌≤◌, Bool, true, false, inl, inr, List, [], ◌∷◌, ◌++◌, length, refl, sym, ◌∙◌, ap, arith, Option, Some, None, sub-one}
use Rattle.std.specs.Prelude.{slice_get, slice_set, slice_index_or, is_some, nat_lt, ◌==◌}
use Rattle.std.proofs.lemmas.Bool.Decides.{nat_tests}
use Rattle.std.proofs.lemmas.Option.{get_or_from_slice_get}
use Rattle.model.proofs.BoolLemmas.{either}
use Rattle.model.specs.Worlds.{Resolved, Job, Goal}
use Rattle.model.specs.Goals.{goal_at, with_goal_at, members, is_in}
use Rattle.jobs.specs.Owned.{Owned, with_goals}
use Rattle.jobs.specs.Rising.{with_number, without_number}
use Rattle.jobs.specs.Numbers.{numbers, entered, left, moved, has_scratch, is_of, is_built_under, first_built}

pub same_number : (k : ℕ) → (k == k) ≡ true
same_number k = grind (arith, nat_tests)

apart : (k m : ℕ) → k < m → (k == m) ≡ false
apart k m h = grind (arith, nat_tests)

lower : (k m : ℕ) → k < m → nat_lt k m ≡ true
lower k m h = grind (arith, nat_tests)

not_lower : (k m : ℕ) → k < m → nat_lt m k ≡ false
not_lower k m h = grind (arith, nat_tests)

above_apart : (m j : ℕ) → m < j → (j == m) ≡ false
above_apart m j h = grind (arith, nat_tests)

longer : (n : ℕ) (ns : List ℕ) → ns ≡ n ∷ ns → ⊥
longer n ns e = let lengths : length ns ≡ suc (length ns) = ap length e in absurd (omega arith)

tail_is : (n : ℕ) (ns ms : List ℕ) → n ∷ ns ≡ n ∷ ms → ns ≡ ms
tail_is n ns ms e = cc

-- what was put in anew is taken out again
pub put_back : (m : ℕ) (ns : List ℕ) → without_number m ns ≡ ns → without_number m (with_number m ns) ≡ ns
unfolding with_number without_number
put_back m [] e = rw (same_number m) refl
put_back m (n ∷ ns) e = elim (either (n == m)) [
  | inl t ↦ absurd (longer n ns (rw t at e))
  | inr f ↦ elim (either (nat_lt m n)) [
    | inl l ↦ rw (l, same_number m) refl
    | inr g ↦
        let rest : without_number m ns ≡ ns = tail_is n (without_number m ns) ns (rw f at e) in
        rw (g, f) (ap (λ r. n ∷ r) (put_back m ns rest))
  ]
]

-- a number below the first is not there
without_above : (t : ℕ → Goal → Bool) (m j : ℕ) (gs : List Goal) → m < j → without_number m (numbers t j gs) ≡ numbers t j gs
unfolding numbers without_number
without_above t m j [] h = refl
without_above t m j (g ∷ gs) h = elim (either (t j g)) [
  | inl y ↦ rw (y, above_apart m j h) (ap (λ r. j ∷ r) (without_above t m (suc j) gs (omega arith)))
  | inr f ↦ rw f (without_above t m (suc j) gs (omega arith))
]

with_above : (t : ℕ → Goal → Bool) (m j : ℕ) (gs : List Goal) → m < j → with_number m (numbers t j gs) ≡ m ∷ numbers t j gs
unfolding numbers with_number
with_above t m j [] h = refl
with_above t m j (g ∷ gs) h = elim (either (t j g)) [
  | inl y ↦ rw (y, lower m j h) refl
  | inr f ↦ rw f (with_above t m (suc j) gs (omega arith))
]

-- a goal that does not pass has its number taken out
numbers_unset : (t : ℕ → Goal → Bool) (y : Goal) (k m i : ℕ) (gs : List Goal) → t m y ≡ false → m ≡ k + i
    → without_number m (numbers t k gs) ≡ numbers t k (slice_set gs i y)
unfolding numbers without_number
numbers_unset t y k m i [] fail e = refl
numbers_unset t y k m zero (g ∷ gs) fail e =
    let is : m ≡ k = omega arith in
    let here : t k y ≡ false = rw is at fail in
    elim (either (t k g)) [
      | inl pass ↦ rw (pass, here, is, same_number k) refl
      | inr f ↦ rw (f, here) (without_above t m (suc k) gs (omega arith))
    ]
numbers_unset t y k m (suc i) (g ∷ gs) fail e = elim (either (t k g)) [
  | inl pass ↦ rw (pass, apart k m (omega arith)) (ap (λ r. k ∷ r) (numbers_unset t y (suc k) m i gs fail (omega arith)))
  | inr f ↦ rw f (numbers_unset t y (suc k) m i gs fail (omega arith))
]

-- a goal that passes now has its number put in
numbers_set : (t : ℕ → Goal → Bool) (y : Goal) (k m i : ℕ) (gs : List Goal) (g : Goal) → t m y ≡ true → slice_get gs i ≡ Some g → t m g ≡ false → m ≡ k + i
    → with_number m (numbers t k gs) ≡ numbers t k (slice_set gs i y)
unfolding numbers with_number
numbers_set t y k m i [] g pass at fail e = cc
numbers_set t y k m zero (x ∷ gs) g pass at fail e =
    let is : m ≡ k = omega arith in
    let same : x ≡ g = cc in
    let here : t k y ≡ true = rw is at pass in
    let before : t k g ≡ false = rw is at fail in
    rw (here, same, before, is) (with_above t k (suc k) gs (omega arith))
numbers_set t y k m (suc i) (x ∷ gs) g pass at fail e = elim (either (t k x)) [
  | inl u ↦ rw (u, not_lower k m (omega arith)) (ap (λ r. k ∷ r) (numbers_set t y (suc k) m i gs g pass at fail (omega arith)))
  | inr f ↦ rw f (numbers_set t y (suc k) m i gs g pass at fail (omega arith))
]

-- where it passes now as it did before, nothing changes
numbers_kept : (t : ℕ → Goal → Bool) (y : Goal) (k m i : ℕ) (gs : List Goal) (g : Goal) → slice_get gs i ≡ Some g → t m y ≡ t m g → m ≡ k + i
    → numbers t k gs ≡ numbers t k (slice_set gs i y)
unfolding numbers
numbers_kept t y k m i [] g at same e = cc
numbers_kept t y k m zero (x ∷ gs) g at same e =
    let is : m ≡ k = omega arith in
    let first : x ≡ g = cc in
    let here : t k y ≡ t k g = rw is at same in
    rw (first, here) refl
numbers_kept t y k m (suc i) (x ∷ gs) g at same e = elim (either (t k x)) [
  | inl u ↦ rw u (ap (λ r. k ∷ r) (numbers_kept t y (suc k) m i gs g at same (omega arith)))
  | inr f ↦ rw f (numbers_kept t y (suc k) m i gs g at same (omega arith))
]

numbers_push : (t : ℕ → Goal → Bool) (k : ℕ) (gs : List Goal) (y : Goal) → ((n : ℕ) → t n y ≡ false) → numbers t k (gs ++ y ∷ []) ≡ numbers t k gs
unfolding numbers
numbers_push t k [] y fail = rw (fail k) refl
numbers_push t k (g ∷ gs) y fail = elim (either (t k g)) [
  | inl pass ↦ rw pass (ap (λ r. k ∷ r) (numbers_push t (suc k) gs y fail))
  | inr f ↦ rw f (numbers_push t (suc k) gs y fail)
]

-- the members of a job are the numbers of those that are built in it
pub members_are : (job : Job) (k : ℕ) (gs : List Goal) → numbers (is_of job) k gs ≡ members job k gs
unfolding numbers members
members_are job k [] = refl
members_are job k (g ∷ gs) = elim (either (is_in job g.status)) [
  | inl t ↦ rw t (ap (λ r. k ∷ r) (members_are job (suc k) gs))
  | inr f ↦ rw f (members_are job (suc k) gs)
]

-- ---- goals by their numbers

-- one that passes no more, or did not and does not
pub set_left : (t : ℕ → Goal → Bool) (n : ℕ) (gs : List Goal) (g y : Goal) (leaves : Bool) → goal_at n gs ≡ Some g → t n y ≡ false
    → (leaves ≡ false → t n g ≡ false)
    → left leaves n (numbers t 1 gs) ≡ numbers t 1 (slice_set gs (n - 1) y)
set_left t zero gs g y leaves at fail before = cc
set_left t (suc i) gs g y true at fail before = rw sub-one (numbers_unset t y 1 (suc i) i gs fail (omega arith))
set_left t (suc i) gs g y false at fail before = rw sub-one (numbers_kept t y 1 (suc i) i gs g at (fail ∙ sym (before refl)) (omega arith))

-- one that passes now, or does not, and did not before
pub set_entered : (t : ℕ → Goal → Bool) (n : ℕ) (gs : List Goal) (g y : Goal) (enters : Bool) → goal_at n gs ≡ Some g → t n y ≡ enters → t n g ≡ false
    → entered enters n (numbers t 1 gs) ≡ numbers t 1 (slice_set gs (n - 1) y)
set_entered t zero gs g y enters at now before = cc
set_entered t (suc i) gs g y true at now before = rw sub-one (numbers_set t y 1 (suc i) i gs g now at before (omega arith))
set_entered t (suc i) gs g y false at now before = rw sub-one (numbers_kept t y 1 (suc i) i gs g at (now ∙ sym before) (omega arith))

-- the number of one that does not pass is not there
pub not_there : (t : ℕ → Goal → Bool) (n : ℕ) (gs : List Goal) (g : Goal) → goal_at n gs ≡ Some g → t n g ≡ false
    → without_number n (numbers t 1 gs) ≡ numbers t 1 gs
not_there t n gs g at fail = set_left t n gs g g true at fail (λ _. fail) ∙ sym (set_left t n gs g g false at fail (λ _. fail))

-- one that passes as it did before
pub set_kept : (t : ℕ → Goal → Bool) (n : ℕ) (gs : List Goal) (g y : Goal) → goal_at n gs ≡ Some g → t n y ≡ t n g
    → numbers t 1 gs ≡ numbers t 1 (slice_set gs (n - 1) y)
set_kept t zero gs g y at same = cc
set_kept t (suc i) gs g y at same = rw sub-one (numbers_kept t y 1 (suc i) i gs g at same (omega arith))

-- one that passed before, or did not, and passes now, or does not
pub set_moved : (t : ℕ → Goal → Bool) (n : ℕ) (gs : List Goal) (g y : Goal) (was is : Bool) → goal_at n gs ≡ Some g → t n g ≡ was → t n y ≡ is
    → moved was is n (numbers t 1 gs) ≡ numbers t 1 (slice_set gs (n - 1) y)
set_moved t n gs g y true true at before now = set_kept t n gs g y at (now ∙ sym before)
set_moved t n gs g y true false at before now = set_left t n gs g y true at now (λ f. (let no = sym f in cc))
set_moved t n gs g y false true at before now = set_entered t n gs g y true at now before
set_moved t n gs g y false false at before now = set_kept t n gs g y at (now ∙ sym before)

pub pushed : (t : ℕ → Goal → Bool) (gs : List Goal) (y : Goal) → ((n : ℕ) → t n y ≡ false) → numbers t 1 gs ≡ numbers t 1 (gs ++ y ∷ [])
pushed t gs y fail = sym (numbers_push t 1 gs y fail)

-- ---- the first that is built under a path

abbrev pub resolved_of : Option Goal → Option Resolved
resolved_of None = None
resolved_of (Some g) = g.resolved

first_of : (f : ℕ → Option Goal) → Option ℕ → Option Resolved
first_of f None = None
first_of f (Some n) = resolved_of (f n)

first_from : (path : List ℕ) (f : ℕ → Option Goal) (k : ℕ) (gs : List Goal) → ((i : ℕ) (g : Goal) → slice_get gs i ≡ Some g → f (k + i) ≡ Some g)
    → first_of f (slice_get (numbers (is_built_under path) k gs) 0) ≡ first_built path gs
unfolding numbers first_of first_built
first_from path f k [] at = refl
first_from path f k (g ∷ gs) at =
    let none : k + zero ≡ k = omega arith in
    let here : f k ≡ Some g = ap f (sym none) ∙ at zero g refl in
    let next : (i : ℕ) → suc k + i ≡ k + suc i = λ i. (omega arith) in
    elim (either (has_scratch path g.resolved)) [
      | inl t ↦ rw (t, here) refl
      | inr n ↦ rw n (first_from path f (suc k) gs (λ i x there. ap f (next i) ∙ at (suc i) x there))
    ]

pub numbered_from : (gs : List Goal) (i : ℕ) (g : Goal) → slice_get gs i ≡ Some g → goal_at (1 + i) gs ≡ Some g
numbered_from gs i g at = let one : 1 + i ≡ suc i = omega arith in rw one at

-- no goal has a number
pub none_built : (path : List ℕ) (gs : List Goal) → slice_get (numbers (is_built_under path) 1 gs) 0 ≡ None → None ≡ first_built path gs
unfolding first_of
none_built path gs none =
    ap (first_of (λ n. goal_at n gs)) (sym none) ∙ first_from path (λ n. goal_at n gs) 1 gs (numbered_from gs)

-- the goal of the first number
pub one_built : (path : List ℕ) (gs : List Goal) (n : ℕ) → slice_get (numbers (is_built_under path) 1 gs) 0 ≡ Some n
    → resolved_of (goal_at n gs) ≡ first_built path gs
unfolding first_of
one_built path gs n is =
    ap (first_of (λ m. goal_at m gs)) (sym is) ∙ first_from path (λ m. goal_at m gs) 1 gs (numbered_from gs)

-- ---- how many they are

pub with_one : (m : ℕ) (ns : List ℕ) → length (with_number m ns) ≡ suc (length ns)
unfolding with_number
with_one m [] = refl
with_one m (n ∷ ns) = elim (either (nat_lt m n)) [
  | inl t ↦ rw t refl
  | inr f ↦ rw f (ap suc (with_one m ns))
]

without_one : (m : ℕ) (ns : List ℕ) → length (without_number m ns) ≤ length ns
unfolding without_number
without_one m [] = omega arith
without_one m (n ∷ ns) = elim (either (n == m)) [
  | inl t ↦ rw t (omega arith)
  | inr f ↦ let rest = without_one m ns in rw f (omega (arith, rest))
]

-- a number that is moved is at most one more
pub moved_in : (was : Bool) (n : ℕ) (ns : List ℕ) → length (moved was true n ns) ≤ length ns + 1
moved_in true n ns = omega arith
moved_in false n ns = let more = with_one n ns in omega (arith, more)

pub moved_out : (was : Bool) (n : ℕ) (ns : List ℕ) → length (moved was false n ns) ≤ length ns
moved_out true n ns = without_one n ns
moved_out false n ns = omega arith

-- ---- the goal that is read and written

pub got : (n : ℕ) (gs : List Goal) (x g : Goal) → x ≡ slice_index_or gs (n - 1) x → goal_at n gs ≡ Some g → x ≡ g
got zero gs x g e at = cc
got (suc n) gs x g e at = let read : x ≡ slice_index_or gs n x = rw sub-one at e in read ∙ get_or_from_slice_get gs n g x at

-- a goal that is there has its place
pub in_range : (n : ℕ) (gs : List Goal) → is_some (goal_at n gs) ≡ true → n - 1 < length gs
in_range zero gs h = cc
in_range (suc i) gs h = rw sub-one (below i gs h)
  where
    below : (i : ℕ) (gs : List Goal) → is_some (slice_get gs i) ≡ true → i < length gs
    below i [] h = cc
    below zero (g ∷ gs) h = omega arith
    below (suc i) (g ∷ gs) h = let rest : i < length gs = below i gs h in omega (arith, rest)

pub some_at : (o : Option Goal) → is_some o ≡ true → (g : Goal) × (o ≡ Some g)
some_at None h = cc
some_at (Some g) h = (g, refl)

pub found : (n : ℕ) (gs : List Goal) (x : Goal) → x ≡ slice_index_or gs (n - 1) x → is_some (goal_at n gs) ≡ true → goal_at n gs ≡ Some x
found n gs x e h = let there = some_at (goal_at n gs) h in there.1 ∙ ap (λ y. Some y) (sym (got n gs x there.0 e there.1))

pub written : (n : ℕ) (gs : List Goal) (y : Goal) (g : Goal) → goal_at n gs ≡ Some g → slice_set gs (n - 1) y ≡ with_goal_at n y gs
written zero gs y g at = cc
written (suc n) gs y g at = rw sub-one refl

-- a goal that is written back as it was
pub written_back : (n : ℕ) (gs : List Goal) (g : Goal) → goal_at n gs ≡ Some g → slice_set gs (n - 1) g ≡ gs
written_back zero gs g at = cc
written_back (suc n) gs g at = rw sub-one (set_back gs n g at)
  where
    set_back : (gs : List Goal) (k : ℕ) (x : Goal) → slice_get gs k ≡ Some x → slice_set gs k x ≡ gs
    set_back [] k x there = refl
    set_back (y ∷ ys) zero x there = (let same : y ≡ x = cc in ap (λ z. z ∷ ys) (sym same))
    set_back (y ∷ ys) (suc k) x there = ap (λ rest. y ∷ rest) (set_back ys k x there)

-- one goal of a user is written
pub changed : (o : Owned) (owner : List ℕ) (gs : List Goal) (n : ℕ) (x y : Goal) (f : Goal → Goal) → record { owner = owner; goals = gs } ≡ o
    → x ≡ slice_index_or gs (n - 1) x → y ≡ f x → (g : Goal) → goal_at n o.goals ≡ Some g
    → record { owner = owner; goals = slice_set gs (n - 1) y } ≡ with_goals (with_goal_at n (f g) o.goals) o
changed o owner gs n x y f same read is g at =
    let goals : gs ≡ o.goals = ap (λ (v : Owned). v.goals) same in
    let here : goal_at n gs ≡ Some g = ap (goal_at n) goals ∙ at in
    let value : y ≡ f g = is ∙ ap f (got n gs x g read here) in
    let all : slice_set gs (n - 1) y ≡ with_goal_at n (f g) o.goals =
    ap (slice_set gs (n - 1)) value ∙ written n gs (f g) g here ∙ ap (with_goal_at n (f g)) goals in
    λ i. record { owner = ap (λ (v : Owned). v.owner) same i; goals = all i }
