-- Goals that are let go, the last first, and goals that are sought among those that are built in jobs.
use Rattle.std.proofs.Common.{◌≡◌, ℕ, zero, suc, ◌+◌, ◌-◌, ◌<◌, ◌≤◌, arith, Bool, true, false, inl, inr, List, [], ◌∷◌, length, map, refl, sym, ◌∙◌, ap, subst, Option, Some, None}
use Rattle.std.specs.Prelude.{slice_get, slice_set, slice_index_or, ◌&&◌, ◌||◌, if◌then◌else◌}
use Rattle.std.specs.List.{list_any}
use Rattle.model.proofs.BoolLemmas.{either}
use Rattle.model.specs.Worlds.{Status, Waiting, Planned, Building, Done, Failed, Goal}
use Rattle.model.specs.Goals.{goal_at, with_goal_at, as_seen, is_building}
use Rattle.model.specs.ForgetRequests.{is_built_from, builds_with, let_go}
use Rattle.jobs.specs.Owned.{Owned, with_goals}
use Rattle.jobs.specs.Numbers.{numbers, in_any_job, building}
use Rattle.jobs.proofs.NumberLemmas.{numbered_from}

pub some_is : {X : Type 0} (x y : X) → Some x ≡ Some y → x ≡ y
some_is x y e = cc

-- a goal in its own place
pub put_back : (n : ℕ) (g : Goal) (goals : List Goal) → goal_at n goals ≡ Some g → with_goal_at n g goals ≡ goals
put_back zero g goals there = refl
put_back (suc i) g goals there = set_back i goals there
  where
    set_back : (i : ℕ) (xs : List Goal) → slice_get xs i ≡ Some g → slice_set xs i g ≡ xs
    set_back i [] there = absurd (cc)
    set_back zero (x ∷ xs) there = ap (λ y. y ∷ xs) (sym (some_is x g there))
    set_back (suc i) (x ∷ xs) there = ap (λ rest. x ∷ rest) (set_back i xs there)

-- ---- whether a goal is built from it

-- whether a goal is there, and passes a test
abbrev pub passes : (Goal → Bool) → Option Goal → Bool
passes test None = false
passes test (Some g) = test g

seen_idle : (reach : List ℕ → Bool) (s : Status) (from : Bool) → is_building s ≡ false → (is_building (as_seen reach s) && from) ≡ false
seen_idle reach Waiting from f = refl
seen_idle reach Planned from f = refl
seen_idle reach (Building job) from f = cc
seen_idle reach (Done path) from f = refl
seen_idle reach (Failed why) from f = refl

-- one that is built in no job is not
idle_not_with : (reach : List ℕ → Bool) (class path : List ℕ) (g : Goal) → is_building g.status ≡ false → builds_with reach class path g ≡ false
idle_not_with reach class path g f = seen_idle reach g.status (is_built_from class path g.resolved) f

any_from : (test : Goal → Bool) → ((g : Goal) → is_building g.status ≡ false → test g ≡ false) → (at : ℕ → Option Goal) (k : ℕ) (gs : List Goal)
    → ((i : ℕ) (g : Goal) → slice_get gs i ≡ Some g → at (k + i) ≡ Some g)
    → list_any (λ n. passes test (at n)) (numbers in_any_job k gs) ≡ list_any test gs
unfolding numbers
any_from test idle at k [] there = refl
any_from test idle at k (g ∷ gs) there =
    let none : k + zero ≡ k = omega arith in
    let here : at k ≡ Some g = ap at (sym none) ∙ there zero g refl in
    let next : (i : ℕ) → suc k + i ≡ k + suc i = λ i. (omega arith) in
    let rest : list_any (λ n. passes test (at n)) (numbers in_any_job (suc k) gs) ≡ list_any test gs =
    any_from test idle at (suc k) gs (λ i x is. ap at (next i) ∙ there (suc i) x is) in
    elim (either (is_building g.status)) [
      | inl t ↦ rw (t, here) (ap (λ b. test g || b) rest)
      | inr f ↦ rw (f, idle g f) rest
    ]

-- it is enough to look at those that are built in jobs
pub any_built : (reach : List ℕ → Bool) (class path : List ℕ) (gs : List Goal)
    → list_any (λ n. passes (builds_with reach class path) (goal_at n gs)) (building gs) ≡ list_any (builds_with reach class path) gs
any_built reach class path gs =
    any_from (builds_with reach class path) (idle_not_with reach class path) (λ n. goal_at n gs) 1 gs (numbered_from gs)

-- ---- goals that are let go

-- all goals are changed, but for the first so many of those that are built in jobs, and what is between them
unfoldable pub changed_from : (Goal → Goal) → ℕ → List Goal → List Goal
changed_from f zero gs = map f gs
changed_from f (suc i) [] = []
changed_from f (suc i) (g ∷ gs) = g ∷ changed_from f (if is_building g.status then i else suc i) gs

-- one that is built in no job stays
idle_stays : (class path : List ℕ) (g : Goal) → is_building g.status ≡ false → let_go class path g ≡ g
idle_stays class path g f = rw f refl

-- what is to be of the goal of the number at a place
abbrev pub IsTurn : (Goal → Goal) → ℕ → ℕ → (now next : List Goal) → Type 0
IsTurn f p k now next =
    (i : ℕ) × (g : Goal) × (slice_get now i ≡ Some g) × (slice_index_or (numbers in_any_job k now) p 0 ≡ k + i)
    × (p < length (numbers in_any_job k now)) × (slice_set now i (f g) ≡ next)

module _ (f : Goal → Goal) (idle : (g : Goal) → is_building g.status ≡ false → f g ≡ g) where
  passed_in : (i : ℕ) (g : Goal) (gs : List Goal) → is_building g.status ≡ true → changed_from f (suc i) (g ∷ gs) ≡ g ∷ changed_from f i gs
  unfolding changed_from
  passed_in i g gs t = rw t refl

  passed_out : (i : ℕ) (g : Goal) (gs : List Goal) → is_building g.status ≡ false → changed_from f i (g ∷ gs) ≡ g ∷ changed_from f i gs
  unfolding changed_from
  passed_out zero g gs n = ap (λ x. x ∷ map f gs) (idle g n)
  passed_out (suc i) g gs n = rw n refl

  all_changed : (gs : List Goal) → changed_from f 0 gs ≡ map f gs
  unfolding changed_from
  all_changed gs = refl

  -- none at first
  none_changed : (k : ℕ) (gs : List Goal) → changed_from f (length (numbers in_any_job k gs)) gs ≡ gs
  unfolding numbers
  none_changed k [] = all_changed []
  none_changed k (g ∷ gs) = elim (either (is_building g.status)) [
    | inl t ↦ rw t (passed_in (length (numbers in_any_job (suc k) gs)) g gs t ∙ ap (λ l. g ∷ l) (none_changed (suc k) gs))
    | inr n ↦ rw n (passed_out (length (numbers in_any_job (suc k) gs)) g gs n ∙ ap (λ l. g ∷ l) (none_changed (suc k) gs))
  ]

  turn_here : (k : ℕ) (g : Goal) (gs : List Goal) → is_building g.status ≡ true → IsTurn f zero k (g ∷ gs) (f g ∷ gs)
  unfolding numbers
  turn_here k g gs t = (0, g, refl, rw t (omega arith), rw t (omega arith), refl)

  turn_behind : (p k : ℕ) (g : Goal) (now next : List Goal) → is_building g.status ≡ true → IsTurn f p (suc k) now next
      → IsTurn f (suc p) k (g ∷ now) (g ∷ next)
  unfolding numbers
  turn_behind p k g now next t it =
      let number = it.3 in
      let below = it.4 in
      (suc it.0, it.1, it.2, rw t (omega (arith, number)), rw t (omega (arith, below)), ap (λ l. g ∷ l) it.5)

  turn_past : (p k : ℕ) (g : Goal) (now next : List Goal) → is_building g.status ≡ false → IsTurn f p (suc k) now next
      → IsTurn f p k (g ∷ now) (g ∷ next)
  unfolding numbers
  turn_past p k g now next n it =
      let number = it.3 in
      let below = it.4 in
      (suc it.0, it.1, it.2, rw n (omega (arith, number)), rw n (omega (arith, below)), ap (λ l. g ∷ l) it.5)

  same_turn : (p k : ℕ) (now now_too next next_too : List Goal) → now ≡ now_too → next ≡ next_too → IsTurn f p k now_too next_too
      → IsTurn f p k now next
  same_turn p k now now_too next next_too is then_is it =
      subst (λ l. IsTurn f p k l next) (sym is) (subst (IsTurn f p k now_too) (sym then_is) it)

  -- the last of those that are built in jobs, and not yet changed
  turn_at : (p k : ℕ) (gs : List Goal) → p < length (numbers in_any_job k gs) → IsTurn f p k (changed_from f (suc p) gs) (changed_from f p gs)
  unfolding numbers
  turn_at p k [] below = absurd (omega (arith, below))
  turn_at zero k (g ∷ gs) below = elim (either (is_building g.status)) [
    | inl t ↦
        same_turn zero k (changed_from f 1 (g ∷ gs)) (g ∷ changed_from f 0 gs) (changed_from f 0 (g ∷ gs)) (f g ∷ changed_from f 0 gs)
        (passed_in 0 g gs t) (all_changed (g ∷ gs) ∙ ap (λ l. f g ∷ l) (sym (all_changed gs))) (turn_here k g (changed_from f 0 gs) t)
    | inr n ↦
        same_turn zero k (changed_from f 1 (g ∷ gs)) (g ∷ changed_from f 1 gs) (changed_from f 0 (g ∷ gs)) (g ∷ changed_from f 0 gs)
        (passed_out 1 g gs n) (passed_out 0 g gs n)
        (turn_past zero k g (changed_from f 1 gs) (changed_from f 0 gs) n (turn_at zero (suc k) gs (rw n at below)))
  ]
  turn_at (suc p) k (g ∷ gs) below = elim (either (is_building g.status)) [
    | inl t ↦
        let fewer : suc p < suc (length (numbers in_any_job (suc k) gs)) = rw t at below in
        same_turn (suc p) k (changed_from f (suc (suc p)) (g ∷ gs)) (g ∷ changed_from f (suc p) gs) (changed_from f (suc p) (g ∷ gs))
        (g ∷ changed_from f p gs) (passed_in (suc p) g gs t) (passed_in p g gs t)
        (turn_behind p k g (changed_from f (suc p) gs) (changed_from f p gs) t (turn_at p (suc k) gs (omega (arith, fewer))))
    | inr n ↦
        same_turn (suc p) k (changed_from f (suc (suc p)) (g ∷ gs)) (g ∷ changed_from f (suc (suc p)) gs) (changed_from f (suc p) (g ∷ gs))
        (g ∷ changed_from f (suc p) gs) (passed_out (suc (suc p)) g gs n) (passed_out (suc p) g gs n)
        (turn_past (suc p) k g (changed_from f (suc (suc p)) gs) (changed_from f (suc p) gs) n (turn_at (suc p) (suc k) gs (rw n at below)))
  ]

module _ (class path : List ℕ) (o : Owned) where
  abbrev pub letting_go : ℕ → Owned
  letting_go p = with_goals (changed_from (let_go class path) p o.goals) o

  -- none at first, and all at last
  pub none_let_go : letting_go (length (building o.goals)) ≡ o
  none_let_go = ap (λ gs. with_goals gs o) (none_changed (let_go class path) (idle_stays class path) 1 o.goals)

  pub all_let_go : letting_go 0 ≡ with_goals (map (let_go class path) o.goals) o
  all_let_go = ap (λ gs. with_goals gs o) (all_changed (let_go class path) (idle_stays class path) o.goals)

  -- at the place before this one a number is read, a goal of that number is there, and once it is let go, so are all from there on
  pub next_turn : (now : Owned) (place : ℕ) (all ns : List ℕ) → now ≡ letting_go place → 0 < place → place ≤ length all → all ≡ building o.goals
      → ns ≡ building now.goals
      → (place - 1 < length ns) × (g : Goal) × (goal_at (slice_index_or ns (place - 1) 0) now.goals ≡ Some g)
      × ((new : Owned) → new ≡ with_goals (with_goal_at (slice_index_or ns (place - 1) 0) (let_go class path g) now.goals) now
      → new ≡ letting_go (place - 1))
  next_turn now place all ns is left within listed read =
      let f : Goal → Goal = let_go class path in
      let p : ℕ = place - 1 in
      let below : p < length (building o.goals) = (let count = ap length listed in omega (arith, left, within, count)) in
      let it : IsTurn f p 1 (changed_from f (suc p) o.goals) (changed_from f p o.goals) = turn_at f (idle_stays class path) p 1 o.goals below in
      let so : now ≡ letting_go (suc p) = (let one : place ≡ suc p = omega (arith, left) in is ∙ ap letting_go one) in
      let items : ns ≡ building (letting_go (suc p)).goals = read ∙ ap (λ (v : Owned). building v.goals) so in
      let n : ℕ = slice_index_or ns p 0 in
      let number : n ≡ suc it.0 = ap (λ (l : List ℕ). slice_index_or l p 0) items ∙ it.3 ∙ omega arith in
      let inside = it.4 in
      let count = ap length items in (
        omega (arith, inside, count),
        it.1,
        ap (λ (v : Owned). goal_at n v.goals) so ∙ ap (λ m. goal_at m (letting_go (suc p)).goals) number ∙ it.2,
        λ new changed.
            changed ∙ ap (λ (v : Owned). with_goals (with_goal_at n (f it.1) v.goals) v) so
            ∙ ap (λ m. with_goals (with_goal_at m (f it.1) (letting_go (suc p)).goals) o) number ∙ ap (λ gs. with_goals gs o) it.5,
      )
