-- Trust that is given anywhere in a list of events.
use Rattle.std.proofs.Common.{◌≡◌, ℕ, ◌<◌, Bool, true, false, inl, inr, refl, sym, ◌∙◌, ap, subst, arith, List, [], ◌∷◌, length, None, Some}
use Rattle.std.specs.Prelude.{◌==◌, ◌&&◌, ◌||◌, bytes_eq, map, filter}
use Rattle.std.specs.List.{list_any}
use Rattle.std.proofs.lemmas.Bool.Decides.{nat_tests}
use Rattle.std.proofs.lemmas.List.Folds.{list_any_at}
use Rattle.model.specs.declared.refusal.Refusal.TheVariants.{UnknownUser}
use Rattle.model.specs.Reach.{is_among, leads}
use Rattle.model.specs.Worlds.{are_users}
use Rattle.model.specs.Events as events
use Rattle.model.specs.Striking.{gives_trust, asks_to_trust, strike}
use Rattle.model.proofs.BoolLemmas.{either, bytes_same}
use Rattle.trust.specs.Trusting.{IsReach}
use Rattle.trust.proofs.UsersLemmas.{distinct_users, few_users}
use Rattle.trust.specs.Naming.{place_of, name_at, names, IsWithin, IsLinked}
use Rattle.trust.proofs.PlaceLemmas.{option_cases, name_found, same_place, no_place}
use Rattle.trust.proofs.NameLemmas.{within_nobody, reached_names}
use Rattle.events.specs.declared.event.Event.{Event}
use Rattle.events.specs.Terms.{event_of}
use Rattle.events.specs.Ever.{run_of, IsGiven, why_untold}
use Rattle.trust.proofs.FirstPlaceLemmas as places_among
use Rattle.model.specs.Limits.{most_users}

-- so a place that is found is one of 64
pub found_below : (users : List (List ℕ)) (name : List ℕ) (place : ℕ) → are_users users ≡ true → place_of users name ≡ Some place
    → (place < length users) × (place < most_users)
found_below users name place h e =
    let few = (few_users users h) in
    let below = (name_found users name place e).0 in
    (below, omega arith)

of_run : (users : List (List ℕ)) (place : ℕ) → place < length users → is_among (name_at users place) users ≡ true
of_run users place below = list_any_at (λ n. bytes_eq n (name_at users place)) users place [] below (bytes_same (name_at users place))

turned : (m n : ℕ) → (m == n) ≡ (n == m)
turned m n = grind (arith, nat_tests)

of_both : (a b : Bool) → (a && (b && true)) ≡ (a && b)
of_both a true = refl
of_both true false = refl
of_both false false = refl

none_of : (a : Bool) → (a && false) ≡ false
none_of true = refl
none_of false = refl

-- an event by a user of the run that names another gives their pair
pub pair_given : (users : List (List ℕ)) (actor other : List ℕ) (a b u v : ℕ) → are_users users ≡ true → u < length users → v < length users
    → place_of users actor ≡ Some a → place_of users other ≡ Some b
    → gives_trust (run_of users 0) (name_at users u) (name_at users v) (record { actor = actor; request = events.Trust other }) ≡ (u == a && v == b)
pair_given users actor other a b u v h below also e f =
    let distinct = (distinct_users users h) in
    rw (same_place users actor a u distinct below e, same_place users other b v distinct also f, of_run users u below, of_run users v also, turned a u, turned b v)
    (of_both (u == a) (v == b))

-- one by a stranger gives none
pub stranger_gives_none : (users : List (List ℕ)) (actor : List ℕ) (request : events.Request) (u : ℕ) (v : List ℕ)
    → are_users users ≡ true → u < length users → place_of users actor ≡ None
    → gives_trust (run_of users 0) (name_at users u) v (record { actor = actor; request = request }) ≡ false
stranger_gives_none users actor request u v h below e = rw (no_place users actor u (distinct_users users h) below e) refl

-- and so does one that names a stranger
pub none_given_to_stranger : (users : List (List ℕ)) (actor other : List ℕ) (u : List ℕ) (v : ℕ)
    → are_users users ≡ true → v < length users → place_of users other ≡ None
    → gives_trust (run_of users 0) u (name_at users v) (record { actor = actor; request = events.Trust other }) ≡ false
none_given_to_stranger users actor other u v h below e = rw (no_place users other v (distinct_users users h) below e) (none_of (bytes_eq actor u))

pub or_none : (a b : Bool) → b ≡ false → a ≡ (a || b)
or_none true b h = refl
or_none false b h = sym h

pub or_turned : (a b : Bool) → (a || b) ≡ (b || a)
or_turned true true = refl
or_turned true false = refl
or_turned false true = refl
or_turned false false = refl

-- no events give no trust
pub none_given : (users : List (List ℕ)) (trust : ℕ → ℕ → Bool) → trust ≡ (λ u v. false) → IsGiven users [] trust
none_given users trust e = record {
  within = subst (IsWithin (length users)) (sym e) (within_nobody (length users));
  same = λ u v below also. ap (λ t. t u v) e;
}

strike_of : {X Y : Type 0} (f : X → Y) (p : Y → Bool) (xs : List X) → map f (filter (λ x. p (f x)) xs) ≡ filter p (map f xs)
strike_of f p [] = refl
strike_of f p (x ∷ xs) = elim (either (p (f x))) [
  | inl t ↦ rw t (ap (λ ys. f x ∷ ys) (strike_of f p xs))
  | inr n ↦ rw n (strike_of f p xs)
]

any_of : {X Y : Type 0} (f : X → Y) (p : Y → Bool) (xs : List X) → list_any p (map f xs) ≡ list_any (λ x. p (f x)) xs
any_of f p [] = refl
any_of f p (x ∷ xs) = ap (λ b. p (f x) || b) (any_of f p xs)

none_at_all : (p : Event → Bool) → ((e : Event) → p e ≡ false) → (events : List Event) → list_any p events ≡ false
none_at_all p none [] = refl
none_at_all p none (e ∷ rest) = rw (none e) (none_at_all p none rest)

-- events give trust to no stranger
to_stranger : (users : List (List ℕ)) (x y : List ℕ) (e : events.Event) → is_among y users ≡ false → gives_trust (run_of users 0) x y e ≡ false
to_stranger users x y e none = rw none (none_three (bytes_eq e.actor x) (asks_to_trust y e.request) (is_among x users))
  where
    none_three : (a b c : Bool) → (a && (b && (c && false))) ≡ false
    none_three false b c = refl
    none_three true false c = refl
    none_three true true true = refl
    none_three true true false = refl

-- trust by places that events give, by names
pub given_links : (users : List (List ℕ)) (events : List Event) (trust : ℕ → ℕ → Bool) → IsGiven users events trust
    → IsLinked users trust (λ x y. list_any (λ e. gives_trust (run_of users 0) x y (event_of e)) events)
given_links users events trust given u below y = elim (option_cases (place_of users y)) [
  | inl none ↦ rw none (none_at_all (λ e. gives_trust (run_of users 0) (name_at users u) y (event_of e))
      (λ e. to_stranger users (name_at users u) y (event_of e) (places_among.no_place users y none)) events)
  | inr p ↦
      let found = name_found users y p.0 p.1 in
      rw p.1 (ap (λ n. list_any (λ e. gives_trust (run_of users 0) (name_at users u) n (event_of e)) events) (sym found.1)
      ∙ sym (given.same u p.0 below found.0))
]

-- the events of those who are reached by all trust that was given are those that can reach the user
pub struck : (users : List (List ℕ)) (events kept : List Event) (user : List ℕ) (place : ℕ) (trust : ℕ → ℕ → Bool) (set : ℕ → Bool) (charge : ℕ)
    → are_users users ≡ true → place_of users user ≡ Some place → IsGiven users events trust → IsReach trust place set
    → kept ≡ filter (λ e. names users set e.actor) events
    → map event_of kept ≡ strike (run_of users charge) user (map event_of events)
struck users events kept user place trust set charge h e given reach is =
    ap (map event_of) is ∙ strike_of event_of (λ m. names users set m.actor) events
    ∙ ap (λ s. filter (λ m. s m.actor) (map event_of events)) (by_names ∙ by_events)
  where
    given_by : List ℕ → List ℕ → Bool
    given_by x y = list_any (λ e. gives_trust (run_of users 0) x y (event_of e)) events

    found : (place < length users) × (name_at users place ≡ user)
    found = name_found users user place e

    by_names : names users set ≡ leads given_by users user
    by_names = reached_names users trust given_by place set (distinct_users users h) given.within (given_links users events trust given) found.0 reach
        ∙ ap (leads given_by users) found.1

    by_events : leads given_by users user ≡ leads (λ x y. list_any (gives_trust (run_of users charge) x y) (map event_of events)) users user
    by_events = ap (λ l. leads l users user) (λ i x y. sym (any_of event_of (gives_trust (run_of users charge) x y) events) i)

-- where the user is one of a list of users, there is nothing to refuse
pub told_where : (users : List (List ℕ)) (user : List ℕ) (place : ℕ) → are_users users ≡ true → place_of users user ≡ Some place → why_untold users user ≡ None
told_where users user place h e =
    let found = name_found users user place e in
    let among : is_among user users ≡ true = ap (λ n. is_among n users) (sym found.1) ∙ of_run users place found.0 in
    rw (h, among) refl

pub stranger_untold : (users : List (List ℕ)) (user : List ℕ) → are_users users ≡ true → place_of users user ≡ None → why_untold users user ≡ Some UnknownUser
stranger_untold users user h e = rw (h, places_among.no_place users user e) refl
