-- Of goals that came to the same, what was built for the first is enough.
use Rattle.std.proofs.Common.{◌≡◌, ℕ, zero, suc, ◌+◌, Bool, true, false, inl, inr, List, [], ◌∷◌, refl, sym, ◌∙◌, ap, subst, arith, Option, Some, None}
use Rattle.std.specs.Prelude.{flat_map, slice_get, bytes_eq, not, ◌||◌, if◌then◌else◌}
use Rattle.std.specs.Cmp.{per_alike}
use Rattle.model.specs.Classes.{known_at}
use Rattle.model.specs.Worlds.{Label, Resolved, Goal}
use Rattle.model.specs.Orders.{lesser, least_from}
use Rattle.model.specs.Goals.{goal_at, same_resolved}
use Rattle.model.proofs.BoolLemmas.{either, or_cases, both_parts, same_bytes}
use Rattle.laws.proofs.SetLemmas.{bytes_weak}
use Rattle.records.specs.Recorded.{Recorded}
use Rattle.realise.specs.Holdings.{Holdings}
use Rattle.choose.proofs.ChoosingLemmas.{least_from_append}
use Rattle.jobs.specs.Statuses.{path_in, are_same, is_alike}
use Rattle.jobs.specs.Joining.{same_as}
use Rattle.jobs.specs.Numbers.{numbers, is_done_under, firsts, finished}
use Rattle.jobs.proofs.FinishedLemmas.{resolved_per}
use Rattle.goals.specs.Reusing.{path_before, found_at, found_by, found_if, found_among, found_on}

-- ---- the best so far

-- whether a record does not go before the best
abbrev is_covered : Option Recorded → Recorded → Bool
is_covered None x = false
is_covered (Some b) x = not (path_before x b)

AreCovered : Option Recorded → List Recorded → Type 0
AreCovered best [] = Unit {0}
AreCovered best (x ∷ xs) = (is_covered best x ≡ true) × AreCovered best xs

not_false : (b : Bool) → not b ≡ true → b ≡ false
not_false true t = cc
not_false false t = refl

-- what does not go before the best does not go before a better one
covered_still : (best : Option Recorded) (x y : Recorded) → is_covered best x ≡ true → is_covered (Some (lesser path_before best y)) x ≡ true
covered_still None x y t = cc
covered_still (Some b) x y t = elim (either (path_before y b)) [
  | inl l ↦
      let behind : path_before x y ≡ false =
      bytes_weak.chain x.path b.path y.path (not_false (path_before x b) t) (bytes_weak.one_way y.path b.path l) in
      rw (l, behind) refl
  | inr f ↦ rw f t
]

covered_itself : (best : Option Recorded) (x : Recorded) → is_covered (Some (lesser path_before best x)) x ≡ true
covered_itself best x = elim (either (path_before x x)) [
  | inl t ↦ let no = sym t ∙ bytes_weak.one_way x.path x.path t in absurd (cc)
  | inr f ↦ of_itself best f
]
  where
    of_itself : (best : Option Recorded) → path_before x x ≡ false → is_covered (Some (lesser path_before best x)) x ≡ true
    of_itself None f = rw f refl
    of_itself (Some b) f = elim (either (path_before x b)) [ inl l ↦ rw (l, f) refl | inr g ↦ rw (g, g) refl ]

covered_along : (best : Option Recorded) (x : Recorded) (ys : List Recorded) → is_covered best x ≡ true → is_covered (least_from path_before best ys) x ≡ true
unfolding least_from
covered_along best x [] t = t
covered_along best x (y ∷ ys) t = covered_along (Some (lesser path_before best y)) x ys (covered_still best x y t)

all_along : (best : Option Recorded) (xs ys : List Recorded) → AreCovered best xs → AreCovered (least_from path_before best ys) xs
unfolding AreCovered
all_along best [] ys all = tt
all_along best (x ∷ xs) ys all = (covered_along best x ys all.0, all_along best xs ys all.1)

all_own : (best : Option Recorded) (xs : List Recorded) → AreCovered (least_from path_before best xs) xs
unfolding AreCovered least_from
all_own best [] = tt
all_own best (x ∷ xs) = (covered_along (Some (lesser path_before best x)) x xs (covered_itself best x), all_own (Some (lesser path_before best x)) xs)

-- those that do not go before the best leave it
none_better : (best : Option Recorded) (xs : List Recorded) → AreCovered best xs → least_from path_before best xs ≡ best
unfolding AreCovered least_from
none_better best [] all = refl
none_better None (x ∷ xs) all = let no = all.0 in absurd (cc)
none_better (Some b) (x ∷ xs) all =
    let stays : path_before x b ≡ false = not_false (path_before x b) all.0 in
    rw stays (none_better (Some b) xs all.1)

-- ---- goals one after another

module _ (d : Goal → Bool) (alike : Goal → Goal → Bool) (found : Goal → List Recorded) (f : ℕ → List Recorded)
    (same : (x z : Goal) → alike x z ≡ true → found x ≡ found z) where
  enough : (s : Goal → Bool) (k : ℕ) (gs : List Goal) (best : Option Recorded) → ((i : ℕ) (g : Goal) → slice_get gs i ≡ Some g → f (k + i) ≡ found g)
      → ((z : Goal) → s z ≡ true → AreCovered best (found z))
      → least_from path_before best (flat_map f (firsts (λ n g. d g) alike s k gs)) ≡ least_from path_before best (flat_map f (numbers (λ n g. d g) k gs))
  unfolding firsts numbers
  enough s k [] best at seen = refl
  enough s k (x ∷ xs) best at seen =
      let first : k + zero ≡ k = omega arith in
      let next : (i : ℕ) → suc k + i ≡ k + suc i = λ i. (omega arith) in
      let here : f k ≡ found x = ap f (sym first) ∙ at zero x refl in
      let rest : (i : ℕ) (g : Goal) → slice_get xs i ≡ Some g → f (suc k + i) ≡ found g = λ i g there. ap f (next i) ∙ at (suc i) g there in
      elim (either (d x)) [
        | inl t ↦ elim (either (s x)) [
          | inl old ↦
              let after : least_from path_before best (f k) ≡ best = none_better best (f k) (subst (AreCovered best) (sym here) (seen x old)) in
              let all : List Recorded = flat_map f (numbers (λ n g. d g) (suc k) xs) in
              rw (t, old) (enough s (suc k) xs best rest seen
              ∙ ap (λ b. least_from path_before b all) (sym after) ∙ sym (least_from_append path_before best (f k) all))
          | inr new ↦
              let better : Option Recorded = least_from path_before best (f k) in
              let few : List Recorded = flat_map f (firsts (λ n g. d g) alike (λ z. alike x z || s z) (suc k) xs) in
              let all : List Recorded = flat_map f (numbers (λ n g. d g) (suc k) xs) in
              let still : (z : Goal) → (alike x z || s z) ≡ true → AreCovered better (found z) =
              λ z h. elim (or_cases (alike x z) (s z) h) [
                | inl a ↦ subst (AreCovered better) (here ∙ same x z a) (all_own best (f k))
                | inr old ↦ all_along best (found z) (f k) (seen z old)
              ] in
              rw (t, new) (least_from_append path_before best (f k) few
              ∙ enough (λ z. alike x z || s z) (suc k) xs better rest still
              ∙ sym (least_from_append path_before best (f k) all))
        ]
        | inr n ↦ rw n (enough s (suc k) xs best rest seen)
      ]

-- ---- goals that came to the same

same_there : (o p : Option (List ℕ)) → are_same bytes_eq o p ≡ true → o ≡ p
same_there None p t = cc
same_there (Some x) None t = cc
same_there (Some x) (Some y) t = ap Some (same_bytes x y t)

same_build : (r : Resolved) (o p : Option Resolved) → are_same same_resolved o p ≡ true → same_as r o ≡ same_as r p
same_build r None p t = cc
same_build r (Some q) None t = cc
same_build r (Some q) (Some o) t = per_alike resolved_per q o r t

same_found : (r : Resolved) (labels : List Label) (d : Holdings) (x z : Goal) → is_alike x z ≡ true → found_by r labels d x ≡ found_by r labels d z
same_found r labels d x z alike =
    let one = both_parts (bytes_eq x.derivation z.derivation) _ alike in
    let two = both_parts (are_same bytes_eq (path_in x.status) (path_in z.status)) (are_same same_resolved x.resolved z.resolved) one.1 in
    let derivation : x.derivation ≡ z.derivation = same_bytes x.derivation z.derivation one.0 in
    let path : path_in x.status ≡ path_in z.status = same_there (path_in x.status) (path_in z.status) two.0 in
    let from : same_as r x.resolved ≡ same_as r z.resolved = same_build r x.resolved z.resolved two.1 in
    λ i. found_at labels d (known_at d.known (derivation i)) (if from i then path i else None)

-- the goals of a user that are done under the path of what is to be built
pub first_enough : (r : Resolved) (labels : List Label) (d : Holdings) (goals : List Goal) (best : Option Recorded)
    → least_from path_before best (found_among r labels d goals (finished r.scratch goals)) ≡ least_from path_before best (found_on r labels d goals)
first_enough r labels d goals best =
    let one : (i : ℕ) → 1 + i ≡ suc i = λ i. (omega arith) in
    enough (λ g. is_done_under r.scratch 0 g) is_alike (found_by r labels d) (λ n. found_if r labels d (goal_at n goals)) (same_found r labels d)
    (λ g. false) 1 goals best
    (λ i g there. rw (one i, there) refl)
    (λ z wrong. absurd (cc))
