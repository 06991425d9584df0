-- What is found of goals that are done, when one is done from now on, or is done no more.
use Rattle.std.proofs.Common.{◌≡◌, ◌≢◌, ◌<◌, ◌≤◌, ℕ, zero, suc, ◌+◌, ◌-◌, Bool, true, false, ◌⊎◌, inl, inr, List, [], ◌∷◌, ◌++◌, length, drop, refl, sym, ◌∙◌, ap, subst, arith, Option, Some, None, sub-one}
use Rattle.std.specs.Prelude.{slice_get, slice_set, slice_index_or, bytes_eq, ◌&&◌, ◌==◌, if◌then◌else◌}
use Rattle.std.specs.List.{find}
use Rattle.std.proofs.Math.Seq.{drop-cons}
use Rattle.std.proofs.Math.ListN.{drop_of_length-le}
use Rattle.jobs.specs.declared.ascending.Ascending.{Ascending}
use Rattle.std.specs.Cmp.{IsPartialEquivalence, on_per, and_per}
use Rattle.std.specs.Cmp.Lexicographic.{lists_per}
use Rattle.std.proofs.lemmas.Bool.Decides.{nat_tests}
use Rattle.std.proofs.lemmas.List.{set-set}
use Rattle.model.specs.Classes.{Class}
use Rattle.model.specs.Worlds.{Entry, OfSource, OfRecord, Label, Record, same_class, same_label, same_record, Resolved, Status, Waiting, Planned, Building, Done, Failed, Goal}
use Rattle.model.specs.Goals.{goal_at, in_status, new_goal, same_entry, same_resolved}
use Rattle.model.proofs.BoolLemmas.{either, both_parts, same_bytes, bytes_same, bytes_eq_sym}
use Rattle.jobs.specs.Statuses.{is_done, path_in, are_same, is_alike}
use Rattle.jobs.specs.Rising.{with_number, without_number}
use Rattle.jobs.specs.Numbers.{numbers, numbers_at, room_at, has_scratch, is_built_under, is_done_under, finished, path_of_done, scratch_of, is_other_alike, undone, undone_at, ChangesAt, Exchanges, Finds, FindsFinished, HasRoom}
use Rattle.jobs.proofs.NumberLemmas.{set_kept, with_one}
use Rattle.jobs.proofs.FirstLemmas.{out_set, shift_none, shift_some, found_first, fewer_first, first_pushed}

-- ---- goals that came to the same

bytes_per : IsPartialEquivalence bytes_eq
bytes_per = record {
  symm = bytes_eq_sym;
  trans = λ x y z s t. ap (bytes_eq x) (sym (same_bytes y z t)) ∙ s;
}

class_per : IsPartialEquivalence same_class
class_per = record { symm = both_ways; trans = along }
  where
    both_ways : (b c : Option Class) → same_class b c ≡ same_class c b
    both_ways None None = refl
    both_ways None (Some c) = refl
    both_ways (Some b) None = refl
    both_ways (Some b) (Some c) = bytes_eq_sym b.path c.path

    along : (b c d : Option Class) → same_class b c ≡ true → same_class c d ≡ true → same_class b d ≡ true
    along None None d s t = t
    along None (Some c) d s t = cc
    along (Some b) None d s t = cc
    along (Some b) (Some c) None s t = cc
    along (Some b) (Some c) (Some d) s t = bytes_per.trans b.path c.path d.path s t

label_per : IsPartialEquivalence same_label
label_per = and_per (on_per (λ (l : Label). l.path) bytes_per) (on_per (λ (l : Label). l.class) class_per)

record_per : IsPartialEquivalence same_record
record_per =
    and_per (on_per (λ (r : Record). r.class.path) bytes_per)
    (and_per (on_per (λ (r : Record). r.path) bytes_per) (on_per (λ (r : Record). r.labels) (lists_per label_per)))

entry_per : IsPartialEquivalence same_entry
entry_per = record { symm = both_ways; trans = along }
  where
    both_ways : (b c : Entry) → same_entry b c ≡ same_entry c b
    both_ways (OfSource s) (OfSource t) = bytes_eq_sym s.path t.path
    both_ways (OfSource s) (OfRecord r) = refl
    both_ways (OfRecord r) (OfSource s) = refl
    both_ways (OfRecord q) (OfRecord r) = record_per.symm q r

    along : (b c d : Entry) → same_entry b c ≡ true → same_entry c d ≡ true → same_entry b d ≡ true
    along (OfSource s) (OfSource t) (OfSource u) p q = bytes_per.trans s.path t.path u.path p q
    along (OfSource s) (OfSource t) (OfRecord r) p q = cc
    along (OfSource s) (OfRecord r) d p q = cc
    along (OfRecord r) (OfSource s) d p q = cc
    along (OfRecord r) (OfRecord q) (OfSource s) p t = cc
    along (OfRecord r) (OfRecord q) (OfRecord o) p t = record_per.trans r q o p t

pub resolved_per : IsPartialEquivalence same_resolved
resolved_per =
    and_per (on_per (λ (r : Resolved). r.scratch) bytes_per)
    (and_per (on_per (λ (r : Resolved). r.text) bytes_per) (on_per (λ (r : Resolved). r.closure) (lists_per entry_per)))

there_per : {X : Type 0} {same : X → X → Bool} → IsPartialEquivalence same → IsPartialEquivalence (are_same same)
there_per {X = X} {same = same} laws = record { symm = both_ways; trans = along }
  where
    both_ways : (x y : Option X) → are_same same x y ≡ are_same same y x
    both_ways None None = refl
    both_ways None (Some y) = refl
    both_ways (Some x) None = refl
    both_ways (Some x) (Some y) = laws.symm x y

    along : (x y z : Option X) → are_same same x y ≡ true → are_same same y z ≡ true → are_same same x z ≡ true
    along None y z s t = cc
    along (Some x) None z s t = cc
    along (Some x) (Some y) None s t = cc
    along (Some x) (Some y) (Some z) s t = laws.trans x y z s t

pub alike_per : IsPartialEquivalence is_alike
alike_per =
    and_per (on_per (λ (g : Goal). g.derivation) bytes_per)
    (and_per (on_per (λ (g : Goal). path_in g.status) (there_per bytes_per)) (on_per (λ (g : Goal). g.resolved) (there_per resolved_per)))

-- ---- the first of a list that passes

pub find_here : (p : ℕ → Bool) (ns : List ℕ) (i : ℕ) → i < length ns → p (slice_index_or ns i 0) ≡ true → find p (drop i ns) ≡ Some (slice_index_or ns i 0)
find_here p ns i below t = ap (find p) (drop-cons ns i 0 below) ∙ rw t refl

pub find_next : (p : ℕ → Bool) (ns : List ℕ) (i : ℕ) → i < length ns → p (slice_index_or ns i 0) ≡ false → find p (drop (i + 1) ns) ≡ find p (drop i ns)
find_next p ns i below f =
    let one : i + 1 ≡ suc i = omega arith in
    let split : find p (drop i ns) ≡ find p (slice_index_or ns i 0 ∷ drop (suc i) ns) = ap (find p) (drop-cons ns i 0 below) in
    let skipped : find p (slice_index_or ns i 0 ∷ drop (suc i) ns) ≡ find p (drop (suc i) ns) = rw f refl in
    ap (λ j. find p (drop j ns)) one ∙ sym (split ∙ skipped)

pub find_past : (p : ℕ → Bool) (ns : List ℕ) (i : ℕ) → length ns ≤ i → find p (drop i ns) ≡ None
find_past p ns i past = ap (find p) (drop_of_length-le ns past)

-- ---- goals that are done under a path

abbrev came : List ℕ → Goal → Bool
came path g = is_done_under path 0 g

path_done : (s : Status) (o : Option (List ℕ)) → are_same bytes_eq (path_in s) o ≡ true → is_done s ≡ true
path_done Waiting o t = cc
path_done Planned o t = cc
path_done (Building job) o t = cc
path_done (Done path) o t = refl
path_done (Failed why) o t = cc

same_scratch : (path : List ℕ) (o p : Option Resolved) → are_same same_resolved o p ≡ true → has_scratch path p ≡ true → has_scratch path o ≡ true
same_scratch path None p t h = cc
same_scratch path (Some q) None t h = cc
same_scratch path (Some q) (Some r) t h =
    let same : q.scratch ≡ r.scratch = same_bytes q.scratch r.scratch (both_parts (bytes_eq q.scratch r.scratch) _ t).0 in
    ap (λ s. bytes_eq s path) same ∙ h

-- what came to the same is done under the same path
alike_came : (path : List ℕ) (x y : Goal) → is_alike x y ≡ true → came path y ≡ true → came path x ≡ true
alike_came path x y alike h =
    let rest = (both_parts (bytes_eq x.derivation y.derivation) _ alike).1 in
    let parts = both_parts (are_same bytes_eq (path_in x.status) (path_in y.status)) (are_same same_resolved x.resolved y.resolved) rest in
    let done : is_done x.status ≡ true = path_done x.status (path_in y.status) parts.0 in
    let under : has_scratch path x.resolved ≡ true =
    same_scratch path x.resolved y.resolved parts.1 (both_parts (is_done y.status) (has_scratch path y.resolved) h).1 in
    rw (done, under) refl

came_where : (s : Status) (o : Option Resolved) (path p : List ℕ) → (if is_done s then scratch_of o else None) ≡ Some path
    → (is_done s && has_scratch p o) ≡ bytes_eq path p
came_where Waiting o path p e = cc
came_where Planned o path p e = cc
came_where (Building job) o path p e = cc
came_where (Done by) None path p e = cc
came_where (Done by) (Some r) path p e = let same : r.scratch ≡ path = cc in ap (λ s. bytes_eq s p) same
came_where (Failed why) o path p e = cc

came_nowhere : (s : Status) (o : Option Resolved) (p : List ℕ) → (if is_done s then scratch_of o else None) ≡ None
    → (is_done s && has_scratch p o) ≡ false
came_nowhere Waiting o p e = refl
came_nowhere Planned o p e = refl
came_nowhere (Building job) o p e = refl
came_nowhere (Done by) None p e = refl
came_nowhere (Done by) (Some r) p e = cc
came_nowhere (Failed why) o p e = refl

-- ---- one goal that waits in place of another one

get_set : (gs : List Goal) (i : ℕ) (y w : Goal) → slice_get gs i ≡ Some y → slice_get (slice_set gs i w) i ≡ Some w
get_set [] i y w at = cc
get_set (x ∷ xs) zero y w at = refl
get_set (x ∷ xs) (suc i) y w at = get_set xs i y w at

set_again : (gs : List Goal) (i : ℕ) (y w : Goal) → slice_get gs i ≡ Some y → slice_set (slice_set gs i w) i y ≡ gs
set_again [] i y w at = refl
set_again (x ∷ xs) zero y w at = let same : x ≡ y = cc in ap (λ z. z ∷ xs) (sym same)
set_again (x ∷ xs) (suc i) y w at = ap (λ l. x ∷ l) (set_again xs i y w at)

get_other : (gs : List Goal) (i j : ℕ) (w : Goal) → j ≢ i → slice_get (slice_set gs i w) j ≡ slice_get gs j
get_other [] i j w other = refl
get_other (x ∷ xs) zero zero w other = absurd (other refl)
get_other (x ∷ xs) zero (suc j) w other = refl
get_other (x ∷ xs) (suc i) zero w other = refl
get_other (x ∷ xs) (suc i) (suc j) w other = get_other xs i j w (λ e. other (ap suc e))

other_number : (i j : ℕ) → j ≢ i → (suc j == suc i) ≡ false
other_number i j other = elim (either (suc j == suc i)) [
  | inl t ↦ let same : j ≡ i = grind (arith, nat_tests, t) in absurd (other same)
  | inr f ↦ f
]

not_itself : (i : ℕ) → (suc i == suc i) ≡ true
not_itself i = grind (arith, nat_tests)

no_both : (a : Bool) → (a && false) ≡ false
no_both true = refl
no_both false = refl

module _ (gs : List Goal) (i : ℕ) (y : Goal) (at : slice_get gs i ≡ Some y) where
  waiting : Goal
  waiting = in_status Waiting y

  abbrev before : List Goal
  before = slice_set gs i (in_status Waiting y)

  abbrev another : ℕ → Bool
  another = is_other_alike (suc i) gs

  at_before : slice_get before i ≡ Some (in_status Waiting y)
  at_before = get_set gs i y (in_status Waiting y) at

  again : slice_set before i y ≡ gs
  again = set_again gs i y (in_status Waiting y) at

  another_at : (j : ℕ) (x : Goal) → slice_get before j ≡ Some x → j ≢ i → another (1 + j) ≡ is_alike x y
  another_at j x there other =
      let one : 1 + j ≡ suc j = omega arith in
      let here : slice_get gs j ≡ Some x = sym (get_other gs i j (in_status Waiting y) other) ∙ there in
      rw (one, other_number i j other, here, at) refl

  another_here : (x : Goal) → slice_get before i ≡ Some x → another (1 + i) ≡ is_alike x y
  another_here x there =
      let one : 1 + i ≡ suc i = omega arith in
      let is : in_status Waiting y ≡ x = some_goal (in_status Waiting y) x (sym at_before ∙ there) in
      let none : is_alike (in_status Waiting y) y ≡ false = no_both (bytes_eq y.derivation y.derivation) in
      let not_it : another (suc i) ≡ false = rw (not_itself i) refl in
      ap another one ∙ not_it ∙ sym none ∙ ap (λ (z : Goal). is_alike z y) is
    where
      some_goal : (a b : Goal) → Some a ≡ Some b → a ≡ b
      some_goal a b e = cc

  another_anywhere : (j : ℕ) (x : Goal) → slice_get before j ≡ Some x → another (1 + j) ≡ is_alike x y
  another_anywhere j x there = elim (either (j == i)) [
    | inl t ↦
        let same : j ≡ i = grind (arith, nat_tests, t) in
        ap (λ k. another (1 + k)) same ∙ another_here x (ap (slice_get before) (sym same) ∙ there)
    | inr f ↦ another_at j x there (λ e. (let yes : (j == i) ≡ true = grind (arith, nat_tests, e) in let no = sym yes ∙ f in absurd (cc)))
  ]

  -- under a path under which it is not done nothing else is found
  same_elsewhere : (path : List ℕ) → came path y ≡ false → finished path before ≡ finished path gs
  same_elsewhere path fails =
      out_set (came path) is_alike alike_per (λ g. false) y (in_status Waiting y) 1 i gs at (rw fails refl) refl

  module _ (path : List ℕ) (passes : came path y ≡ true) where
    -- the first that came to the same is found among those that are built under the path
    found_among : find another (numbers (is_built_under path) 1 before) ≡ find another (finished path before)
    found_among =
        found_first (came path) is_alike alike_per y another (is_built_under path) (λ g. false) 1 before
        (λ n x t. (both_parts (is_done x.status) (has_scratch path x.resolved) t).1)
        (λ x t. (alike_came path x y t passes, refl))
        another_anywhere

    alone : find another (finished path before) ≡ None
        → (finished path gs ≡ with_number (suc i) (finished path before)) × (finished path before ≡ without_number (suc i) (finished path gs))
    alone none =
        let so = shift_none (came path) is_alike alike_per y another (in_status Waiting y) passes refl (λ g. false) 1 (suc i) i before at_before
        (omega arith) refl another_at none in
        (ap (finished path) (sym again) ∙ so.0, so.1 ∙ ap (λ l. without_number (suc i) (finished path l)) again)

    beside : (r : ℕ) → find another (finished path before) ≡ Some r
        → ((r < suc i) × (finished path gs ≡ finished path before))
        ⊎ ((suc i < r) × (finished path gs ≡ with_number (suc i) (without_number r (finished path before)))
        × (finished path before ≡ with_number r (without_number (suc i) (finished path gs))))
    beside r found =
        elim (shift_some (came path) is_alike alike_per y another (in_status Waiting y) passes refl (λ g. false) 1 (suc i) i r before at_before
        (omega arith) refl another_at found) [
          | inl so ↦ inl (so.0, ap (finished path) (sym again) ∙ so.1)
          | inr so ↦ inr (so.0, ap (finished path) (sym again) ∙ so.1, so.2 ∙ ap (λ l. with_number r (without_number (suc i) (finished path l))) again)
        ]

-- ---- the goal of a number

undone_is : (gs : List Goal) (i : ℕ) (y : Goal) → goal_at (suc i) gs ≡ Some y → slice_set gs i (in_status Waiting y) ≡ undone (suc i) gs
undone_is gs i y at = ap (λ o. undone_at (suc i) o gs) (sym at)

still_built : (path : List ℕ) (gs : List Goal) (i : ℕ) (y : Goal) → goal_at (suc i) gs ≡ Some y
    → numbers (is_built_under path) 1 gs ≡ numbers (is_built_under path) 1 (slice_set gs i (in_status Waiting y))
still_built path gs i y at = rw sub-one at (set_kept (is_built_under path) (suc i) gs y (in_status Waiting y) at refl)

module _ (gs : List Goal) where
  abbrev other : ℕ → ℕ → Bool
  other n = is_other_alike n gs

  elsewhere : (n : ℕ) (y : Goal) → goal_at n gs ≡ Some y → (path : List ℕ) → came path y ≡ false → finished path (undone n gs) ≡ finished path gs
  elsewhere zero y at path fails = cc
  elsewhere (suc i) y at path fails =
      subst (λ us. finished path us ≡ finished path gs) (undone_is gs i y at) (same_elsewhere gs i y at path fails)

  found_built : (n : ℕ) (y : Goal) → goal_at n gs ≡ Some y → (path : List ℕ) → came path y ≡ true
      → find (other n) (numbers (is_built_under path) 1 gs) ≡ find (other n) (finished path (undone n gs))
  found_built zero y at path passes = cc
  found_built (suc i) y at path passes =
      ap (find (other (suc i))) (still_built path gs i y at)
      ∙ subst (λ us. find (other (suc i)) (numbers (is_built_under path) 1 (slice_set gs i (in_status Waiting y))) ≡ find (other (suc i)) (finished path us))
      (undone_is gs i y at) (found_among gs i y at path passes)

  is_alone : (n : ℕ) (y : Goal) → goal_at n gs ≡ Some y → (path : List ℕ) → came path y ≡ true → find (other n) (finished path (undone n gs)) ≡ None
      → (finished path gs ≡ with_number n (finished path (undone n gs))) × (finished path (undone n gs) ≡ without_number n (finished path gs))
  is_alone zero y at path passes = λ none. absurd (cc)
  is_alone (suc i) y at path passes =
      subst (λ us. find (other (suc i)) (finished path us) ≡ None
      → (finished path gs ≡ with_number (suc i) (finished path us)) × (finished path us ≡ without_number (suc i) (finished path gs)))
      (undone_is gs i y at) (alone gs i y at path passes)

  is_beside : (n : ℕ) (y : Goal) → goal_at n gs ≡ Some y → (path : List ℕ) → came path y ≡ true → (r : ℕ)
      → find (other n) (finished path (undone n gs)) ≡ Some r
      → ((r < n) × (finished path gs ≡ finished path (undone n gs)))
      ⊎ ((n < r) × (finished path gs ≡ with_number n (without_number r (finished path (undone n gs))))
      × (finished path (undone n gs) ≡ with_number r (without_number n (finished path gs))))
  is_beside zero y at path passes r = λ found. absurd (cc)
  is_beside (suc i) y at path passes r =
      subst (λ us. find (other (suc i)) (finished path us) ≡ Some r
      → ((r < suc i) × (finished path gs ≡ finished path us))
      ⊎ ((suc i < r) × (finished path gs ≡ with_number (suc i) (without_number r (finished path us)))
      × (finished path us ≡ with_number r (without_number (suc i) (finished path gs)))))
      (undone_is gs i y at) (beside gs i y at path passes r)

  fewer_now : (path : List ℕ) → length (finished path gs) ≤ length (numbers (is_built_under path) 1 gs)
  fewer_now path =
      fewer_first (came path) is_alike alike_per (is_built_under path)
      (λ n x t. (both_parts (is_done x.status) (has_scratch path x.resolved) t).1) (λ g. false) 1 gs

  fewer_undone : (n : ℕ) (y : Goal) → goal_at n gs ≡ Some y → (path : List ℕ)
      → length (finished path (undone n gs)) ≤ length (numbers (is_built_under path) 1 gs)
  fewer_undone zero y at path = cc
  fewer_undone (suc i) y at path =
      let us : List Goal = slice_set gs i (in_status Waiting y) in
      let few : length (finished path us) ≤ length (numbers (is_built_under path) 1 us) =
      fewer_first (came path) is_alike alike_per (is_built_under path)
      (λ n x t. (both_parts (is_done x.status) (has_scratch path x.resolved) t).1) (λ g. false) 1 us in
      let same : length (finished path us) ≡ length (finished path (undone (suc i) gs)) = ap (λ vs. length (finished path vs)) (undone_is gs i y at) in
      let all : length (numbers (is_built_under path) 1 gs) ≡ length (numbers (is_built_under path) 1 us) = ap length (still_built path gs i y at) in
      omega (arith, few, same, all)

-- ---- the lists of numbers

-- one list changes, and finds what it is to find then
put_at : (from to : List Goal) (path : List ℕ) (change : List ℕ → List ℕ) (old new : List (List ℕ × Ascending)) → FindsFinished from old
    → ChangesAt bytes_eq path change old new → finished path to ≡ change (finished path from)
    → ((p : List ℕ) → bytes_eq path p ≡ false → finished p from ≡ finished p to) → FindsFinished to new
put_at from to path change old new finds changes here others p = elim (either (bytes_eq path p)) [
  | inl t ↦
      let same : path ≡ p = same_bytes path p t in
      let now : numbers_at (bytes_eq p) new ≡ change (numbers_at (bytes_eq p) old) = rw t at (changes p) in
      now ∙ ap change (finds p) ∙ ap (λ q. change (finished q from)) (sym same) ∙ sym here ∙ ap (λ q. finished q to) same
  | inr f ↦
      let now : numbers_at (bytes_eq p) new ≡ numbers_at (bytes_eq p) old = rw f at (changes p) in
      now ∙ finds p ∙ others p f
]

left_at : (from to : List Goal) (path : List ℕ) (lists : List (List ℕ × Ascending)) → FindsFinished from lists → finished path from ≡ finished path to
    → ((p : List ℕ) → bytes_eq path p ≡ false → finished p from ≡ finished p to) → FindsFinished to lists
left_at from to path lists finds here others p = elim (either (bytes_eq path p)) [
  | inl t ↦
      let same : path ≡ p = same_bytes path p t in
      finds p ∙ ap (λ q. finished q from) (sym same) ∙ here ∙ ap (λ q. finished q to) same
  | inr f ↦ finds p ∙ others p f
]

room_for_one : (m : ℕ) (path ns all : List ℕ) (goals : List Goal) (built done : List (List ℕ × Ascending))
    → Finds bytes_eq is_built_under goals built → HasRoom built done → all ≡ with_number m ns
    → length all ≤ length (numbers (is_built_under path) 1 goals) → length ns < room_at (bytes_eq path) done
room_for_one m path ns all goals built done finds room is few =
    let had = room path in
    let one : length all ≡ suc (length ns) = ap length is ∙ with_one m ns in
    let listed : length (numbers_at (bytes_eq path) built) ≡ length (numbers (is_built_under path) 1 goals) = ap length (finds path) in
    omega (arith, had, one, listed, few)

-- a goal of which nothing is found
pub undo_nothing : (gs : List Goal) (n : ℕ) (y : Goal) → goal_at n gs ≡ Some y → path_of_done (Some y) ≡ None → (p : List ℕ)
    → finished p (undone n gs) ≡ finished p gs
undo_nothing gs n y at none p = elsewhere gs n y at p (came_nowhere y.status y.resolved p none)

module _ (gs : List Goal) (n : ℕ) (y : Goal) (at : goal_at n gs ≡ Some y) (path : List ℕ) (ends : path_of_done (Some y) ≡ Some path) where
  came_here : came path y ≡ true
  came_here = came_where y.status y.resolved path path ends ∙ bytes_same path

  elsewhere_alike : (p : List ℕ) → bytes_eq path p ≡ false → finished p (undone n gs) ≡ finished p gs
  elsewhere_alike p f = elsewhere gs n y at p (came_where y.status y.resolved path p ends ∙ f)

  -- it is found from now on
  module _ (old : List (List ℕ × Ascending)) (finds : FindsFinished (undone n gs) old) where
    sought : (o : Option ℕ) → o ≡ find (is_other_alike n gs) (numbers_at (bytes_eq path) old) → find (is_other_alike n gs) (finished path (undone n gs)) ≡ o
    sought o is = ap (find (is_other_alike n gs)) (sym (finds path)) ∙ sym is

    pub finish_alone : (new : List (List ℕ × Ascending)) → None ≡ find (is_other_alike n gs) (numbers_at (bytes_eq path) old)
        → ChangesAt bytes_eq path (with_number n) old new → FindsFinished gs new
    finish_alone new none changes =
        put_at (undone n gs) gs path (with_number n) old new finds changes (is_alone gs n y at path came_here (sought None none)).0 elsewhere_alike

    pub finish_behind : (r : ℕ) → Some r ≡ find (is_other_alike n gs) (numbers_at (bytes_eq path) old) → r < n → FindsFinished gs old
    finish_behind r is before = elim (is_beside gs n y at path came_here r (sought (Some r) is)) [
      | inl so ↦ left_at (undone n gs) gs path old finds (sym so.1) elsewhere_alike
      | inr so ↦ let after = so.0 in absurd (omega (arith, before, after))
    ]

    pub finish_ahead : (r : ℕ) (new : List (List ℕ × Ascending)) → Some r ≡ find (is_other_alike n gs) (numbers_at (bytes_eq path) old) → n ≤ r
        → Exchanges bytes_eq path r n old new → FindsFinished gs new
    finish_ahead r new is after changes = elim (is_beside gs n y at path came_here r (sought (Some r) is)) [
      | inl so ↦ let before = so.0 in absurd (omega (arith, before, after))
      | inr so ↦ put_at (undone n gs) gs path (λ ns. with_number n (without_number r ns)) old new finds changes so.1 elsewhere_alike
    ]

    module _ (built : List (List ℕ × Ascending)) (all : Finds bytes_eq is_built_under gs built) (room : HasRoom built old) where
      pub room_alone : None ≡ find (is_other_alike n gs) (numbers_at (bytes_eq path) old)
          → length (numbers_at (bytes_eq path) old) < room_at (bytes_eq path) old
      room_alone none =
          room_for_one n path (numbers_at (bytes_eq path) old) (finished path gs) gs built old all room
          ((is_alone gs n y at path came_here (sought None none)).0 ∙ ap (with_number n) (sym (finds path))) (fewer_now gs path)

      pub room_ahead : (r : ℕ) → Some r ≡ find (is_other_alike n gs) (numbers_at (bytes_eq path) old) → n ≤ r
          → length (without_number r (numbers_at (bytes_eq path) old)) < room_at (bytes_eq path) old
      room_ahead r is after = elim (is_beside gs n y at path came_here r (sought (Some r) is)) [
        | inl so ↦ let before = so.0 in absurd (omega (arith, before, after))
        | inr so ↦
            room_for_one n path (without_number r (numbers_at (bytes_eq path) old)) (finished path gs) gs built old all room
            (so.1 ∙ ap (λ ns. with_number n (without_number r ns)) (sym (finds path))) (fewer_now gs path)
      ]

  -- it is found no more
  module _ (built old : List (List ℕ × Ascending)) (all : Finds bytes_eq is_built_under gs built) (finds : FindsFinished gs old) where
    sought_next : (o : Option ℕ) → o ≡ find (is_other_alike n gs) (numbers_at (bytes_eq path) built)
        → find (is_other_alike n gs) (finished path (undone n gs)) ≡ o
    sought_next o is = sym (found_built gs n y at path came_here) ∙ ap (find (is_other_alike n gs)) (sym (all path)) ∙ sym is

    pub undo_alone : (new : List (List ℕ × Ascending)) → None ≡ find (is_other_alike n gs) (numbers_at (bytes_eq path) built)
        → ChangesAt bytes_eq path (without_number n) old new → FindsFinished (undone n gs) new
    undo_alone new none changes =
        put_at gs (undone n gs) path (without_number n) old new finds changes (is_alone gs n y at path came_here (sought_next None none)).1
        (λ p f. sym (elsewhere_alike p f))

    pub undo_behind : (r : ℕ) → Some r ≡ find (is_other_alike n gs) (numbers_at (bytes_eq path) built) → r < n → FindsFinished (undone n gs) old
    undo_behind r is before = elim (is_beside gs n y at path came_here r (sought_next (Some r) is)) [
      | inl so ↦ left_at gs (undone n gs) path old finds so.1 (λ p f. sym (elsewhere_alike p f))
      | inr so ↦ let after = so.0 in absurd (omega (arith, before, after))
    ]

    pub undo_ahead : (r : ℕ) (new : List (List ℕ × Ascending)) → Some r ≡ find (is_other_alike n gs) (numbers_at (bytes_eq path) built) → n ≤ r
        → Exchanges bytes_eq path n r old new → FindsFinished (undone n gs) new
    undo_ahead r new is after changes = elim (is_beside gs n y at path came_here r (sought_next (Some r) is)) [
      | inl so ↦ let before = so.0 in absurd (omega (arith, before, after))
      | inr so ↦ put_at gs (undone n gs) path (λ ns. with_number r (without_number n ns)) old new finds changes so.2 (λ p f. sym (elsewhere_alike p f))
    ]

    pub room_next : (r : ℕ) → Some r ≡ find (is_other_alike n gs) (numbers_at (bytes_eq path) built) → n ≤ r → HasRoom built old
        → length (without_number n (numbers_at (bytes_eq path) old)) < room_at (bytes_eq path) old
    room_next r is after room = elim (is_beside gs n y at path came_here r (sought_next (Some r) is)) [
      | inl so ↦ let before = so.0 in absurd (omega (arith, before, after))
      | inr so ↦
          room_for_one r path (without_number n (numbers_at (bytes_eq path) old)) (finished path (undone n gs)) gs built old all room
          (so.2 ∙ ap (λ ns. with_number r (without_number n ns)) (sym (finds path))) (fewer_undone gs n y at path)
    ]

-- ---- one goal is written

-- one that was done or not, and is not done now
pub finished_written : (gs : List Goal) (n : ℕ) (g y : Goal) → goal_at n gs ≡ Some g → is_done y.status ≡ false → (p : List ℕ)
    → finished p (undone n gs) ≡ finished p (slice_set gs (n - 1) y)
finished_written gs zero g y at not_done p = cc
finished_written gs (suc i) g y at not_done p =
    let w : Goal = in_status Waiting g in
    let us : List Goal = slice_set gs i w in
    let same : finished p (slice_set us i y) ≡ finished p us =
    out_set (came p) is_alike alike_per (λ x. false) w y 1 i us (get_set gs i g w at) refl (rw not_done refl) in
    rw sub-one (ap (finished p) (sym (undone_is gs i g at)) ∙ sym same ∙ ap (finished p) (set-set gs i w y))

-- what waits in its place is the same
pub undone_written : (gs : List Goal) (n : ℕ) (g y : Goal) → goal_at n gs ≡ Some g → (p : List ℕ)
    → finished p (undone n gs) ≡ finished p (undone n (slice_set gs (n - 1) y))
undone_written gs zero g y at p = cc
undone_written gs (suc i) g y at p =
    let w : Goal = in_status Waiting y in
    let now : goal_at (suc i) (slice_set gs i y) ≡ Some y = get_set gs i g y at in
    rw sub-one (finished_written gs (suc i) g w at refl p ∙ ap (λ k. finished p (slice_set gs k w)) (sub-one (suc i))
    ∙ ap (finished p) (sym (set-set gs i y w) ∙ undone_is (slice_set gs i y) i y now))

-- one more, which waits
pub finished_pushed : (gs : List Goal) (path p : List ℕ) → finished p gs ≡ finished p (gs ++ new_goal path ∷ [])
finished_pushed gs path p = sym (first_pushed (came p) is_alike alike_per (λ g. false) 1 gs (new_goal path) refl)
