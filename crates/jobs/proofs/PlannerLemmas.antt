-- The sets of places have all who plan goals, when goals are added, planned or change their states.
use Rattle.std.proofs.Common.{◌≡◌, ℕ, zero, suc, ◌*◌, ◌%◌, ◌^◌, ◌<◌, Bool, true, false, inl, inr, List, [], ◌∷◌, ◌++◌, map, length, refl, sym, ◌∙◌, ap, subst, get_or, bit_and, bit_or, min, arith, Option, Some, None}
use Rattle.std.specs.Prelude.{◌&&◌, ◌||◌, ◌==◌, bytes_eq, slice_set, slice_index_or, cond, is_some, Result, Ok, Err, OnOk, OnErr}
use Rattle.std.specs.Map.{lookup}
use Rattle.std.specs.Int.{bit_at}
use Rattle.std.proofs.lemmas.Nat.Bits.{bit_at_and, bit_at-lt}
use Rattle.std.proofs.lemmas.Bool.Decides.{nat_tests}
use Rattle.std.proofs.lemmas.List.{get_or-set_same, get_or-set_other}
use Rattle.std.proofs.lemmas.List.{set-get_or}
use Rattle.model.proofs.BoolLemmas.{either, both_parts, same_bytes}
use Rattle.model.specs.Worlds.{Resolved, Status, Goal}
use Rattle.model.specs.Goals.{goal_at, with_goal_at, in_status, new_goal, is_building}
use Rattle.model.specs.ForgetRequests.{is_built_from, let_go}
use Rattle.trust.specs.Trusting.{holds}
use Rattle.trust.proofs.RowLemmas.{eq_cases, holds_set}
use Rattle.jobs.specs.Owned.{Owned, OwnedByAll, with_goals, goals_at, with_goals_at, all_of, goal_of, ChangesOwn}
use Rattle.jobs.specs.Rising.{without_number}
use Rattle.jobs.specs.Numbers.{numbers, has_scratch, is_built_under, is_done_under}
use Rattle.jobs.specs.Statuses.{is_done, planned_with, IsIdle}
use Rattle.jobs.specs.Planners.{users_at, AddsPlace, HasPlannersOfAll}
use Rattle.jobs.proofs.NumberLemmas.{set_left, set_kept, written, pushed, some_at}
use Rattle.jobs.proofs.UserLemmas.{goals_read, goals_written}

-- ---- the goals of one user

-- where none passes a test, none passes a stronger one
pub none_fewer : (t u : ℕ → Goal → Bool) (k : ℕ) (gs : List Goal) → ((n : ℕ) (g : Goal) → t n g ≡ true → u n g ≡ true) → numbers u k gs ≡ []
    → numbers t k gs ≡ []
unfolding numbers
none_fewer t u k [] fewer none = refl
none_fewer t u k (g ∷ gs) fewer none = elim (either (t k g)) [
  | inl pass ↦ let wrong : k ∷ numbers u (suc k) gs ≡ [] = rw (fewer k g pass) at none in absurd (cc)
  | inr f ↦ elim (either (u k g)) [
    | inl pass ↦ let wrong : k ∷ numbers u (suc k) gs ≡ [] = rw pass at none in absurd (cc)
    | inr e ↦ rw f (none_fewer t u (suc k) gs fewer (rw e at none))
  ]
]

-- where no goal is built under a path, none is done under it
pub none_done : (path : List ℕ) (gs : List Goal) → numbers (is_built_under path) 1 gs ≡ [] → numbers (is_done_under path) 1 gs ≡ []
none_done path gs none =
    none_fewer (is_done_under path) (is_built_under path) 1 gs (λ n g t. (both_parts (is_done g.status) (has_scratch path g.resolved) t).1) none

-- one goal changes, and does not pass
none_left : (t : ℕ → Goal → Bool) (n : ℕ) (gs : List Goal) (g y : Goal) → goal_at n gs ≡ Some g → t n y ≡ false → numbers t 1 gs ≡ []
    → numbers t 1 (with_goal_at n y gs) ≡ []
unfolding without_number
none_left t n gs g y at fail none =
    ap (numbers t 1) (sym (written n gs y g at)) ∙ sym (set_left t n gs g y true at fail (λ f. (let no = sym f in cc))) ∙ ap (without_number n) none

-- one goal changes, and passes where it did
same_left : (t : ℕ → Goal → Bool) (n : ℕ) (gs : List Goal) (g y : Goal) → goal_at n gs ≡ Some g → t n y ≡ t n g
    → numbers t 1 (with_goal_at n y gs) ≡ numbers t 1 gs
same_left t n gs g y at same = ap (numbers t 1) (sym (written n gs y g at)) ∙ sym (set_kept t n gs g y at same)

-- ---- the goals of all

no_goals_at : (users : List (List ℕ)) (place : ℕ) → get_or {A = List Goal} (map (λ u. []) users) place [] ≡ []
no_goals_at [] place = refl
no_goals_at (u ∷ us) zero = refl
no_goals_at (u ∷ us) (suc place) = no_goals_at us place

-- nobody has a goal
pub planners_of_nobody : (sets : List (List ℕ × ℕ)) (users : List (List ℕ)) (all : OwnedByAll)
    → all ≡ record { users = users; goals = map (λ u. []) users } → HasPlannersOfAll sets all
unfolding numbers
planners_of_nobody sets users all is path place out =
    ap (λ (v : OwnedByAll). numbers (is_built_under path) 1 (goals_at place v)) is ∙ ap (numbers (is_built_under path) 1) (no_goals_at users place)

-- more places are in the sets
abbrev pub Widens : List (List ℕ × ℕ) → List (List ℕ × ℕ) → Type 0
Widens old new = (k : List ℕ) (v : ℕ) → holds (users_at k new) v ≡ false → holds (users_at k old) v ≡ false

pub planners_wider : (old new : List (List ℕ × ℕ)) (all : OwnedByAll) → Widens old new → HasPlannersOfAll old all → HasPlannersOfAll new all
planners_wider old new all wider before path place out = before path place (wider path place out)

second_false : (a b : Bool) → (a || b) ≡ false → b ≡ false
second_false false b f = f
second_false true b f = cc

first_false : (a b : Bool) → (a || b) ≡ false → a ≡ false
first_false false b f = refl
first_false true b f = cc

one_false : (a b : Bool) → (a && b) ≡ false → b ≡ true → a ≡ false
one_false false b f t = refl
one_false true b f t = cc

pub added_widens : (path : List ℕ) (place : ℕ) (old new : List (List ℕ × ℕ)) → AddsPlace path place old new → Widens old new
added_widens path place old new adds k v out =
    second_false (bytes_eq path k && (v == place)) (holds (users_at k old) v) (sym (adds k v) ∙ out)

-- the goals of one user change
planners_changed : (sets : List (List ℕ × ℕ)) (place : ℕ) (gs : List Goal) (all : OwnedByAll) → place < length all.goals → HasPlannersOfAll sets all
    → ((k : List ℕ) → holds (users_at k sets) place ≡ false → numbers (is_built_under k) 1 gs ≡ []) → HasPlannersOfAll sets (with_goals_at place gs all)
planners_changed sets place gs all below before here path v out = elim (eq_cases v place) [
  | inl same ↦
      let at : get_or (slice_set all.goals place gs) place [] ≡ gs = get_or-set_same all.goals place gs [] below in
      rw same.1 (ap (numbers (is_built_under path) 1) at ∙ here path (rw same.1 at out))
  | inr other ↦
      let at : get_or (slice_set all.goals place gs) v [] ≡ goals_at v all = get_or-set_other all.goals place v gs [] other.1 in
      ap (numbers (is_built_under path) 1) at ∙ before path v out
]

-- a goal more is built under no path
pub planners_added : (sets : List (List ℕ × ℕ)) (place : ℕ) (derivation : List ℕ) (all : OwnedByAll) → place < length all.goals → HasPlannersOfAll sets all
    → HasPlannersOfAll sets (with_goals_at place (goals_at place all ++ new_goal derivation ∷ []) all)
planners_added sets place derivation all below before =
    let gs : List Goal = goals_at place all in
    planners_changed sets place (gs ++ new_goal derivation ∷ []) all below before
    (λ k out. sym (pushed (is_built_under k) gs (new_goal derivation) (λ n. refl)) ∙ before k place out)

-- a goal is built from what it was built from
pub planners_in_status : (sets : List (List ℕ × ℕ)) (place n : ℕ) (g : Goal) (s : Status) (all : OwnedByAll) → place < length all.goals
    → goal_at n (goals_at place all) ≡ Some g → HasPlannersOfAll sets all
    → HasPlannersOfAll sets (with_goals_at place (with_goal_at n (in_status s g) (goals_at place all)) all)
planners_in_status sets place n g s all below at before =
    let gs : List Goal = goals_at place all in
    planners_changed sets place (with_goal_at n (in_status s g) gs) all below before
    (λ k out. same_left (is_built_under k) n gs g (in_status s g) at refl ∙ before k place out)

-- goals that change, and are built from what they were built from
numbers_mapped : (t : ℕ → Goal → Bool) (f : Goal → Goal) (k : ℕ) (gs : List Goal) → ((n : ℕ) (g : Goal) → t n (f g) ≡ t n g)
    → numbers t k (map f gs) ≡ numbers t k gs
unfolding numbers
numbers_mapped t f k [] same = refl
numbers_mapped t f k (g ∷ gs) same = elim (either (t k g)) [
  | inl pass ↦ rw (same k g, pass) (ap (λ r. k ∷ r) (numbers_mapped t f (suc k) gs same))
  | inr fail ↦ rw (same k g, fail) (numbers_mapped t f (suc k) gs same)
]

let_go_under : (k class path : List ℕ) (n : ℕ) (g : Goal) → is_built_under k n (let_go class path g) ≡ is_built_under k n g
let_go_under k class path n g = elim (either (is_building g.status && is_built_from class path g.resolved)) [ inl t ↦ rw t refl | inr f ↦ rw f refl ]

-- goals are let go
planners_let_go : (sets : List (List ℕ × ℕ)) (place : ℕ) (class path : List ℕ) (all : OwnedByAll) → place < length all.goals → HasPlannersOfAll sets all
    → HasPlannersOfAll sets (with_goals_at place (map (let_go class path) (goals_at place all)) all)
planners_let_go sets place class path all below before =
    let gs : List Goal = goals_at place all in
    planners_changed sets place (map (let_go class path) gs) all below before
    (λ k out. numbers_mapped (is_built_under k) (let_go class path) 1 gs (let_go_under k class path) ∙ before k place out)

same_place : (v : ℕ) → (v == v) ≡ true
same_place v = elim (eq_cases v v) [ inl same ↦ same.0 | inr other ↦ absurd (other.1 refl) ]

-- a goal is planned, and its user is put in at its path
pub planners_planned : (old new : List (List ℕ × ℕ)) (place n : ℕ) (g : Goal) (r : Resolved) (all : OwnedByAll) → place < length all.goals
    → goal_at n (goals_at place all) ≡ Some g → AddsPlace r.scratch place old new → HasPlannersOfAll old all
    → HasPlannersOfAll new (with_goals_at place (with_goal_at n (planned_with r g) (goals_at place all)) all)
planners_planned old new place n g r all below at adds before =
    let gs : List Goal = goals_at place all in
    let y : Goal = planned_with r g in
    planners_changed new place (with_goal_at n y gs) all below (planners_wider old new all (added_widens r.scratch place old new adds) before)
    (λ k out.
    let none : ((bytes_eq r.scratch k && (place == place)) || holds (users_at k old) place) ≡ false = sym (adds k place) ∙ out in
    let apart : bytes_eq r.scratch k ≡ false = one_false (bytes_eq r.scratch k) (place == place)
    (first_false (bytes_eq r.scratch k && (place == place)) (holds (users_at k old) place) none) (same_place place) in
    none_left (is_built_under k) n gs g y at apart
    (before k place (second_false (bytes_eq r.scratch k && (place == place)) (holds (users_at k old) place) none)))

-- ---- what was written

pub by_result : {A E X Y P : Type 0} → (r : Result A E) → OnOk r X → OnErr r Y → (X → P) → (Y → P) → P
by_result (Ok a) x y on_ok on_err = on_ok x
by_result (Err e) x y on_ok on_err = on_err y

pub idle_there : (o : Option Goal) → IsIdle o → is_some o ≡ true
idle_there None idle = absurd idle
idle_there (Some g) idle = refl

module _ (all : OwnedByAll) (each : List Owned) (place : ℕ) (x y : Owned) (same : all_of each ≡ all) (below : place < length all.goals)
    (read : x ≡ slice_index_or each place x) (sets : List (List ℕ × ℕ)) where
  own : goals_at place all ≡ x.goals
  own = goals_read all each place x same below read

  by_goals : (f : List Goal → List Goal) → y ≡ with_goals (f x.goals) x → HasPlannersOfAll sets (with_goals_at place (f (goals_at place all)) all)
      → HasPlannersOfAll sets (all_of (slice_set each place y))
  by_goals f is holds = subst (HasPlannersOfAll sets) (sym (goals_written all each place x y f same below read is)) holds

  -- nothing has changed
  pub same_written : y ≡ x → HasPlannersOfAll sets (all_of each) → HasPlannersOfAll sets (all_of (slice_set each place y))
  same_written is before =
      let back : slice_set each place y ≡ each = ap (slice_set each place) (is ∙ read) ∙ set-get_or each place x in
      subst (λ list. HasPlannersOfAll sets (all_of list)) (sym back) before

  pub added_written : (derivation : List ℕ) → y ≡ with_goals (x.goals ++ new_goal derivation ∷ []) x → HasPlannersOfAll sets (all_of each)
      → HasPlannersOfAll sets (all_of (slice_set each place y))
  added_written derivation is before =
      by_goals (λ gs. gs ++ new_goal derivation ∷ []) is (planners_added sets place derivation all below (subst (HasPlannersOfAll sets) same before))

  pub let_go_written : (class path : List ℕ) → y ≡ with_goals (map (let_go class path) x.goals) x → HasPlannersOfAll sets (all_of each)
      → HasPlannersOfAll sets (all_of (slice_set each place y))
  let_go_written class path is before =
      by_goals (map (let_go class path)) is (planners_let_go sets place class path all below (subst (HasPlannersOfAll sets) same before))

  pub status_written : (n : ℕ) (s : Status) → is_some (goal_of place n all) ≡ true → ChangesOwn n (in_status s) x y → HasPlannersOfAll sets (all_of each)
      → HasPlannersOfAll sets (all_of (slice_set each place y))
  status_written n s there changes before =
      let g = some_at (goal_of place n all) there in
      let at : goal_at n x.goals ≡ Some g.0 = ap (goal_at n) (sym own) ∙ g.1 in
      by_goals (with_goal_at n (in_status s g.0)) (changes g.0 at)
      (planners_in_status sets place n g.0 s all below g.1 (subst (HasPlannersOfAll sets) same before))

  pub planned_written : (old : List (List ℕ × ℕ)) (n : ℕ) (r : Resolved) → is_some (goal_of place n all) ≡ true → ChangesOwn n (planned_with r) x y
      → AddsPlace r.scratch place old sets → HasPlannersOfAll old (all_of each) → HasPlannersOfAll sets (all_of (slice_set each place y))
  planned_written old n r there changes adds before =
      let g = some_at (goal_of place n all) there in
      let at : goal_at n x.goals ≡ Some g.0 = ap (goal_at n) (sym own) ∙ g.1 in
      by_goals (with_goal_at n (planned_with r g.0)) (changes g.0 at)
      (planners_planned old sets place n g.0 r all below g.1 adds (subst (HasPlannersOfAll old) same before))

-- ---- sets of places

-- a set is put in its place at a path
pub users_added : (path : List ℕ) (place set : ℕ) (old new : List (List ℕ × ℕ)) → place < 64 → set ≡ bit_or (users_at path old) (1 * 2 ^ place % 2 ^ 64)
    → ((k : List ℕ) → lookup (bytes_eq k) new ≡ cond (bytes_eq path k) (Some set) (lookup (bytes_eq k) old)) → AddsPlace path place old new
users_added path place set old new below is updates k v = elim (either (bytes_eq path k)) [
  | inl t ↦
      let here : lookup (bytes_eq k) new ≡ Some set = rw t at (updates k) in
      let path_is : path ≡ k = same_bytes path k t in
      rw (t, here, is) (holds_set (users_at path old) place v below ∙ ap (λ p. (v == place) || holds (users_at p old) v) path_is)
  | inr f ↦
      let here : lookup (bytes_eq k) new ≡ lookup (bytes_eq k) old = rw f at (updates k) in
      rw (f, here) refl
]

both_low : (a b : ℕ) → a < 2 → b < 2 → (min a b == 1) ≡ ((a == 1) && (b == 1))
both_low a b low below = grind (arith, nat_tests)

-- a place is in both of two sets
pub holds_both : (a b v : ℕ) → holds (bit_and a b) v ≡ (holds a v && holds b v)
holds_both a b v = ap (λ n. n == 1) (bit_at_and a b v) ∙ both_low (bit_at a v) (bit_at b v) (bit_at-lt a v) (bit_at-lt b v)

left_out : (a b : Bool) → (a && b) ≡ false → a ≡ true → b ≡ false
left_out true b f t = f
left_out false b f t = cc

-- of a set those who may have planned: who is left out of it has no goal under the path
pub left_out_of : (set planners v : ℕ) → holds (bit_and set planners) v ≡ false → holds set v ≡ true → holds planners v ≡ false
left_out_of set planners v out of_set = left_out (holds set v) (holds planners v) (sym (holds_both set planners v) ∙ out) of_set

pub of_both : (set planners v : ℕ) → holds (bit_and set planners) v ≡ true → holds set v ≡ true
of_both set planners v both = (both_parts (holds set v) (holds planners v) (sym (holds_both set planners v) ∙ both)).0
