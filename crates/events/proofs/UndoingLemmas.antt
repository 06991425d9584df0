-- An event and the one that takes it back: both are as they were.
use Rattle.std.proofs.Common.{◌≡◌, ℕ, suc, Bool, true, false, inl, inr, refl, sym, ◌∙◌, ap, List, [], ◌∷◌, ◌++◌, length, Option, Some, None}
use Rattle.std.specs.Prelude.{◌==◌, ◌&&◌, ◌||◌, not, if◌then◌else◌}
use Rattle.std.proofs.lemmas.Bool.Decides.{Decides-eqb}
use Rattle.model.specs.Events.{Request, Trust, Distrust, Event}
use Rattle.model.proofs.BoolLemmas.{either, both_parts}
use Rattle.trust.specs.Trusting.{with_said}
use Rattle.trust.specs.Naming.{place_of}
use Rattle.events.specs.declared.undoing.Said.{Said}
use Rattle.events.specs.Undoing.{said_of, said_in, said_by, trust_with, saying, undoing, trust_after, all_undoing}

-- ---- one pair

same_itself : (n : ℕ) → (n == n) ≡ true
same_itself n = (Decides-eqb n n).1 refl

-- after what is said of a pair, that is so
said_is_so : (user other : ℕ) (trusted : Bool) (trust : ℕ → ℕ → Bool) → with_said user other trusted trust user other ≡ trusted
said_is_so user other true trust = rw (same_itself user, same_itself other) refl
said_is_so user other false trust = rw (same_itself user, same_itself other) refl

or_or : (p t : Bool) → (p ≡ true → t ≡ true) → (p || (p || t)) ≡ t
or_or true t h = sym (h refl)
or_or false t h = refl

or_not : (p t : Bool) → (p ≡ true → t ≡ true) → (p || (not p && t)) ≡ t
or_not true t h = sym (h refl)
or_not false t h = refl

not_or : (p t : Bool) → (p ≡ true → t ≡ false) → (not p && (p || t)) ≡ t
not_or true t h = sym (h refl)
not_or false t h = refl

not_not : (p t : Bool) → (p ≡ true → t ≡ false) → (not p && (not p && t)) ≡ t
not_not true t h = sym (h refl)
not_not false t h = refl

-- and what was so before, said again, brings the trust before it back
said_again : (user other : ℕ) (trusted before : Bool) (trust : ℕ → ℕ → Bool) → trust user other ≡ before
    → with_said user other before (with_said user other trusted trust) ≡ trust
said_again user other trusted before trust was = λ i u v. at trusted before was u v i
  where
    here : (b : Bool) → trust user other ≡ b → (u v : ℕ) → (u == user && v == other) ≡ true → trust u v ≡ b
    here b is u v t =
        let parts = both_parts (u == user) (v == other) t in
        (λ i. trust ((Decides-eqb u user).0 parts.0 i) ((Decides-eqb v other).0 parts.1 i)) ∙ is

    at : (trusted before : Bool) → trust user other ≡ before → (u v : ℕ)
        → with_said user other before (with_said user other trusted trust) u v ≡ trust u v
    at true true is u v = or_or (u == user && v == other) (trust u v) (here true is u v)
    at false true is u v = or_not (u == user && v == other) (trust u v) (here true is u v)
    at true false is u v = not_or (u == user && v == other) (trust u v) (here false is u v)
    at false false is u v = not_not (u == user && v == other) (trust u v) (here false is u v)

-- ---- one event

abbrev now_saying : Bool → Option Said → Option Said
now_saying trusted None = None
now_saying trusted (Some said) = Some (record { user = said.user; other = said.other; trusted = trusted })

said_otherwise : (p q : Option ℕ) (trusted now : Bool) → said_of p q now ≡ now_saying now (said_of p q trusted)
said_otherwise None q trusted now = refl
said_otherwise (Some user) None trusted now = refl
said_otherwise (Some user) (Some other) trusted now = elim (either (user == other)) [ inl one ↦ rw one refl | inr two ↦ rw two refl ]

said_saying : (users : List (List ℕ)) (actor : List ℕ) (request : Request) (now : Bool)
    → said_in users actor (saying now request) ≡ now_saying now (said_in users actor request)
said_saying users actor (Trust other) true = said_otherwise (place_of users actor) (place_of users other) true true
said_saying users actor (Trust other) false = said_otherwise (place_of users actor) (place_of users other) true false
said_saying users actor (Distrust other) true = said_otherwise (place_of users actor) (place_of users other) false true
said_saying users actor (Distrust other) false = said_otherwise (place_of users actor) (place_of users other) false false
said_saying users actor request now = refl

said_so : (p q : Option ℕ) (trusted : Bool) (said : Said) → said_of p q trusted ≡ Some said → said.trusted ≡ trusted
said_so None q trusted said is = cc
said_so (Some user) None trusted said is = cc
said_so (Some user) (Some other) trusted said is = elim (either (user == other)) [
  | inl one ↦ (let none : None ≡ Some said = rw one at is in cc)
  | inr two ↦ (let some : Some (record { user = user; other = other; trusted = trusted }) ≡ Some said = rw two at is in of_some _ said some)
]
  where
    of_some : (a b : Said) → Some a ≡ Some b → b.trusted ≡ a.trusted
    of_some a b e = (let same : a ≡ b = cc in sym (ap (λ (s : Said). s.trusted) same))

saying_twice : (other : List ℕ) (now : Bool) → (saying true (if now then Trust other else Distrust other) ≡ Trust other)
    × (saying false (if now then Trust other else Distrust other) ≡ Distrust other)
saying_twice other true = (refl, refl)
saying_twice other false = (refl, refl)

-- a request that says something else says again what it said
said_back : (users : List (List ℕ)) (actor : List ℕ) (request : Request) (said : Said) (now : Bool) → said_in users actor request ≡ Some said
    → saying said.trusted (saying now request) ≡ request
said_back users actor (Trust other) said now is =
    rw (said_so (place_of users actor) (place_of users other) true said is) (saying_twice other now).0
said_back users actor (Distrust other) said now is =
    rw (said_so (place_of users actor) (place_of users other) false said is) (saying_twice other now).1
said_back users actor request said now is = cc

module _ (users : List (List ℕ)) (trust : ℕ → ℕ → Bool) (e : Event) where
  -- the event that takes it back
  abbrev back : Event
  back = undoing (said_by users e) trust e

  abbrev then_trust : ℕ → ℕ → Bool
  then_trust = trust_with (said_by users e) trust

  said_of_back : (o : Option Said) (said : Said) → said_by users e ≡ o → o ≡ Some said
      → said_by users (undoing o trust e) ≡ Some (record { user = said.user; other = said.other; trusted = trust said.user said.other })
  said_of_back None said is some = cc
  said_of_back (Some s) said is some =
      let same : s ≡ said = cc in
      said_saying users e.actor e.request (trust s.user s.other) ∙ ap (now_saying (trust s.user s.other)) is
      ∙ ap (λ (s : Said). Some (record { user = s.user; other = s.other; trusted = trust s.user s.other })) same

  pub event_back : undoing (said_by users back) then_trust back ≡ e
  event_back = of (said_by users e) refl
    where
      of : (o : Option Said) → said_by users e ≡ o → undoing (said_by users (undoing o trust e)) (trust_with o trust) (undoing o trust e) ≡ e
      of None is = ap (λ o. undoing o trust e) is
      of (Some said) is =
          let before : Bool = trust said.user said.other in
          let there : Event = undoing (Some said) trust e in
          ap (λ o. undoing o (trust_with (Some said) trust) there) (said_of_back (Some said) said is refl)
          ∙ ap (λ b. record { actor = e.actor; request = saying b (saying before e.request) }) (said_is_so said.user said.other said.trusted trust)
          ∙ ap (λ (r : Request). record { actor = e.actor; request = r }) (said_back users e.actor e.request said before is)

  pub trust_back : trust_with (said_by users back) then_trust ≡ trust
  trust_back = of (said_by users e) refl
    where
      of : (o : Option Said) → said_by users e ≡ o → trust_with (said_by users (undoing o trust e)) (trust_with o trust) ≡ trust
      of None is = ap (λ o. trust_with o trust) is
      of (Some said) is =
          ap (λ o. trust_with o (trust_with (Some said) trust)) (said_of_back (Some said) said is refl)
          ∙ said_again said.user said.other said.trusted (trust said.user said.other) trust refl

-- ---- one event more

pub trust_after-push : (users : List (List ℕ)) (trust : ℕ → ℕ → Bool) (events : List Event) (e : Event)
    → trust_after users trust (events ++ e ∷ []) ≡ trust_with (said_by users e) (trust_after users trust events)
unfolding trust_after
trust_after-push users trust [] e = refl
trust_after-push users trust (x ∷ events) e = trust_after-push users (trust_with (said_by users x) trust) events e

pub all_undoing-push : (users : List (List ℕ)) (trust : ℕ → ℕ → Bool) (events : List Event) (e : Event)
    → all_undoing users trust (events ++ e ∷ []) ≡ all_undoing users trust events ++ undoing (said_by users e) (trust_after users trust events) e ∷ []
unfolding trust_after all_undoing
all_undoing-push users trust [] e = refl
all_undoing-push users trust (x ∷ events) e = ap (λ es. undoing (said_by users x) trust x ∷ es) (all_undoing-push users (trust_with (said_by users x) trust) events e)

pub length-all_undoing : (users : List (List ℕ)) (trust : ℕ → ℕ → Bool) (events : List Event) → length (all_undoing users trust events) ≡ length events
unfolding all_undoing
length-all_undoing users trust [] = refl
length-all_undoing users trust (x ∷ events) = ap (λ n. suc n) (length-all_undoing users (trust_with (said_by users x) trust) events)
