-- Goals of one user that get states, the last of them first.
use Rattle.std.proofs.Common.{◌≡◌, ◌≢◌, ℕ, zero, suc, ◌<◌, List, [], ◌∷◌, ◌++◌, length, map, refl, sym, ◌∙◌, ap, subst, arith, Option, Some, None}
use Rattle.std.specs.Prelude.{All, is_some, slice_get, slice_set}
use Rattle.std.proofs.lemmas.List.{map-append}
use Rattle.std.proofs.lemmas.List.Elements.{All-nil, All-cons, All-head, All-tail, All-weaker}
use Rattle.model.specs.Worlds.{Status, Goal}
use Rattle.model.specs.Goals.{goal_at, with_goal_at, in_status}
use Rattle.jobs.specs.Owned.{OwnedByAll, with_goals_at}
use Rattle.jobs.proofs.NumberLemmas.{some_at}
use Rattle.handlers.specs.Supported.{goals_of}
use Rattle.handlers.proofs.PuttingLemmas.{all_front}
use Rattle.events.specs.declared.status.Status as Rust
use Rattle.events.specs.Statuses.{status_of}
use Rattle.endings.specs.DeskDeltas.{with_status, with_statuses, status_at, IsSettable}
use Rattle.endings.specs.Committing.{Ascend, AreSettable}
use Rattle.endings.proofs.FailingLemmas.{IsChangedAt, changed_again}

-- ---- one state

-- goals, one of which gets a state
abbrev with_one : ℕ × Status → List Goal → List Goal
with_one x goals = with_status x.0 x.1 (goal_at x.0 goals) goals

-- the same by its place
abbrev at_place : ℕ → Status → List Goal → List Goal
at_place i status goals = with_status (suc i) status (slice_get goals i) goals

behind_one : (i : ℕ) (status : Status) (g : Goal) (gs : List Goal) → at_place (suc i) status (g ∷ gs) ≡ g ∷ at_place i status gs
behind_one i status g gs = each (slice_get gs i)
  where
    each : (o : Option Goal) → with_status (suc (suc i)) status o (g ∷ gs) ≡ g ∷ with_status (suc i) status o gs
    each None = refl
    each (Some y) = refl

-- goals at two places get their states in either order
at_two_places : (i j : ℕ) (one other : Status) (gs : List Goal) → i ≢ j
    → at_place i one (at_place j other gs) ≡ at_place j other (at_place i one gs)
at_two_places i j one other [] apart = refl
at_two_places zero zero one other (g ∷ gs) apart = absurd (apart refl)
at_two_places zero (suc j) one other (g ∷ gs) apart =
    ap (at_place zero one) (behind_one j other g gs) ∙ sym (behind_one j other (in_status one g) gs)
at_two_places (suc i) zero one other (g ∷ gs) apart =
    behind_one i one (in_status other g) gs ∙ sym (ap (at_place zero other) (behind_one i one g gs))
at_two_places (suc i) (suc j) one other (g ∷ gs) apart =
    ap (at_place (suc i) one) (behind_one j other g gs) ∙ behind_one i one g (at_place j other gs)
    ∙ ap (λ rest. g ∷ rest) (at_two_places i j one other gs (λ same. apart (ap suc same)))
    ∙ sym (behind_one j other g (at_place i one gs)) ∙ sym (ap (at_place (suc j) other) (behind_one i one g gs))

with_two : (n m : ℕ) (one other : Status) (gs : List Goal) → m < n → with_one (n, one) (with_one (m, other) gs) ≡ with_one (m, other) (with_one (n, one) gs)
with_two n zero one other gs below = refl
with_two zero (suc j) one other gs below = absurd (omega (arith, below))
with_two (suc i) (suc j) one other gs below = at_two_places i j one other gs (λ same. (let no : i ≡ j = same in omega (arith, below, no)))

-- ---- all states

-- the state of a goal behind all others may be there before these
first_or_last : (x : ℕ × Status) (xs : List (ℕ × Status)) (gs : List Goal) → All (λ y. y.0 < x.0) xs
    → with_statuses xs (with_one x gs) ≡ with_one x (with_statuses xs gs)
unfolding with_statuses
first_or_last x [] gs below = refl
first_or_last x (y ∷ ys) gs below =
    ap (with_statuses ys) (sym (with_two x.0 y.0 x.1 y.1 gs (All-head (λ z. z.0 < x.0) y ys below)))
    ∙ first_or_last x ys (with_one y gs) (All-tail (λ z. z.0 < x.0) y ys below)

last_of_all : (xs : List (ℕ × Status)) (x : ℕ × Status) (gs : List Goal) → with_statuses (xs ++ x ∷ []) gs ≡ with_one x (with_statuses xs gs)
unfolding with_statuses
last_of_all [] x gs = refl
last_of_all (y ∷ ys) x gs = last_of_all ys x (with_one y gs)

last_above : (low : ℕ) (xs : List (ℕ × Status)) (x : ℕ × Status) → Ascend low (map (λ y. y.0) (xs ++ x ∷ [])) → low < x.0
last_above low [] x up = up.0
last_above low (y ∷ ys) x up = (let first = up.0 in let rest = last_above y.0 ys x up.1 in omega (arith, first, rest))

-- the last number is above all others, and these ascend
last_ascends : (low : ℕ) (xs : List (ℕ × Status)) (x : ℕ × Status) → Ascend low (map (λ y. y.0) (xs ++ x ∷ []))
    → All (λ y. y.0 < x.0) xs × Ascend low (map (λ y. y.0) xs)
last_ascends low [] x up = (All-nil (λ y. y.0 < x.0), tt)
last_ascends low (y ∷ ys) x up =
    let rest = last_ascends y.0 ys x up.1 in
    (All-cons (λ z. z.0 < x.0) y ys (last_above y.0 ys x up.1) rest.0, (up.0, rest.1))

all_last : {X : Type 0} (P : X → Type 0) (xs : List X) (x : X) → All P (xs ++ x ∷ []) → P x
all_last P [] x all = All-head P x [] all
all_last P (y ∷ ys) x all = all_last P ys x (All-tail P y (ys ++ x ∷ []) all)

some_set : (gs : List Goal) (i j : ℕ) (y : Goal) → is_some (slice_get (slice_set gs i y) j) ≡ is_some (slice_get gs j)
some_set [] i j y = refl
some_set (g ∷ gs) zero zero y = refl
some_set (g ∷ gs) zero (suc j) y = refl
some_set (g ∷ gs) (suc i) zero y = refl
some_set (g ∷ gs) (suc i) (suc j) y = some_set gs i j y

still_some : (n m : ℕ) (y : Goal) (gs : List Goal) → is_some (goal_at m (with_goal_at n y gs)) ≡ is_some (goal_at m gs)
still_some zero m y gs = refl
still_some (suc i) zero y gs = refl
still_some (suc i) (suc j) y gs = some_set gs i j y

-- what is left of states, once the last of them is taken out
pub popped : (all rest : List (ℕ × Rust.Status)) (n : ℕ) (status : Rust.Status) → all ≡ rest ++ (n, status) ∷ []
    → map status_at all ≡ map status_at rest ++ (n, status_of status) ∷ []
popped all rest n status are = ap (map status_at) are ∙ map-append status_at rest ((n, status) ∷ [])

-- the last goal gets its state, and those before it are left
pub statuses_before : (old now next : OwnedByAll) (place : ℕ) (x : ℕ × Status) (rest all : List (ℕ × Status)) → all ≡ rest ++ x ∷ []
    → place < length old.goals → IsChangedAt place old now → AreSettable (goals_of now.goals place) all
    → ((g : Goal) → goal_at x.0 (goals_of now.goals place) ≡ Some g
    → next ≡ with_goals_at place (with_goal_at x.0 (in_status x.1 g) (goals_of now.goals place)) now)
    → (with_statuses rest (goals_of next.goals place) ≡ with_statuses all (goals_of now.goals place))
    × AreSettable (goals_of next.goals place) rest × IsChangedAt place old next
statuses_before old now next place x rest all are below changed settable set =
    let gs : List Goal = goals_of now.goals place in
    let each : All (IsSettable gs) (rest ++ x ∷ []) = subst (All (IsSettable gs)) are settable.each in
    let split = last_ascends 0 rest x (subst (λ xs. Ascend 0 (map (λ y. y.0) xs)) are settable.once) in
    let there = some_at (goal_at x.0 gs) (all_last (IsSettable gs) rest x each).0 in
    let again = changed_again place old now next (with_goal_at x.0 (in_status x.1 there.0) gs) below changed (set there.0 there.1) in
    let one : with_one x gs ≡ goals_of next.goals place = ap (λ o. with_status x.0 x.1 o gs) there.1 ∙ sym again.0 in (
      ap (with_statuses rest) (sym one) ∙ first_or_last x rest gs split.0 ∙ sym (last_of_all rest x gs) ∙ ap (λ xs. with_statuses xs gs) (sym are),
      record {
        each = subst (λ own. All (IsSettable own) rest) (sym again.0)
            (All-weaker (IsSettable gs) (IsSettable (with_goal_at x.0 (in_status x.1 there.0) gs))
            (λ y was. (still_some x.0 y.0 (in_status x.1 there.0) gs ∙ was.0, was.1)) rest (all_front (IsSettable gs) rest (x ∷ []) each));
        once = split.1;
      },
      again.1,
    )

pub last_there : (goals : List Goal) (all rest : List (ℕ × Status)) (x : ℕ × Status) → all ≡ rest ++ x ∷ [] → AreSettable goals all → IsSettable goals x
last_there goals all rest x are settable = all_last (IsSettable goals) rest x (subst (All (IsSettable goals)) are settable.each)
