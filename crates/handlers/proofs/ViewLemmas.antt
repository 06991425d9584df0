-- The desks of all whom a user reaches are those that the model's user sees.
use Rattle.std.proofs.Common.{◌≡◌, ℕ, zero, suc, ◌+◌, ◌<◌, Bool, true, false, inl, inr, List, [], ◌∷◌, ◌++◌, length, get_or, refl, sym, ◌∙◌, ap, arith, Some}
use Rattle.std.specs.Prelude.{All, map, filter}
use Rattle.std.specs.List.{range_with_len}
use Rattle.std.proofs.lemmas.List.Elements.{filter-append, All-filter}
use Rattle.std.proofs.lemmas.List.FromFn.{length-range_with_len, get_or-range_with_len}
use Rattle.std.proofs.lemmas.List.{append-nil, get_or_default, map-append}
use Rattle.model.specs.Worlds.{Source, Setup, Desk, World, Goal, Job, are_distinct}
use Rattle.model.specs.Outcomes.{trusts, reaches, view_of}
use Rattle.model.proofs.BoolLemmas.{either}
use Rattle.trust.specs.Trusting.{IsReach}
use Rattle.trust.specs.Naming.{place_of, name_at, is_at, names, IsWithin, IsLinked}
use Rattle.trust.proofs.PlaceLemmas as places
use Rattle.trust.proofs.NameLemmas.{reached_names}
use Rattle.realise.specs.Holdings.{Holdings}
use Rattle.handlers.specs.Sound.{desk_of}
use Rattle.handlers.specs.Parts.{beside_at, desk_among}
use Rattle.handlers.specs.Viewing.{places_of, bare, desk_at, IsView}
use Rattle.trust.proofs.FirstPlaceLemmas.{place_found}
use Rattle.handlers.proofs.WorldLemmas.{desk_found}
use Rattle.handlers.proofs.HandlingLemmas.{place_there}
use Rattle.trust.proofs.UsersLemmas.{distinct_users}

-- ---- places

last : (a n j : ℕ) → a + n ≡ j → range_with_len a (suc n) ≡ range_with_len a n ++ j ∷ []
last a zero j e = let same : a ≡ j = omega arith in ap (λ k. k ∷ []) same
last a (suc n) j e = ap (λ l. a ∷ l) (last (a + 1) n j (omega arith))

more : (n : ℕ) → range_with_len 0 (n + 1) ≡ range_with_len 0 n ++ n ∷ []
more n = let on : n + 1 ≡ suc n = omega arith in ap (range_with_len 0) on ∙ last 0 n n (omega arith)

-- the job that the user at a place leads, made with a copy of his name
pub job_made : (users : List (List ℕ)) (place number : ℕ) (found copy : List ℕ) (job : Job) → place < length users
    → found ≡ get_or users place found → copy ≡ found → job ≡ record { leader = copy; number = number }
    → job ≡ record { leader = name_at users place; number = number }
job_made users place number found copy job below is same made =
    made ∙ ap (λ u. record { leader = u; number = number }) (same ∙ is ∙ get_or_default users place found [] below)

-- with one place more, which is in the set, or is not
module _ {X : Type 0} (f : ℕ → X) (set : ℕ → Bool) (n : ℕ) where
  pub places_in : set n ≡ true → map f (places_of set (n + 1)) ≡ map f (places_of set n) ++ f n ∷ []
  places_in t =
      ap (λ ps. map f (filter set ps)) (more n) ∙ ap (map f) (filter-append set (range_with_len 0 n) (n ∷ []))
      ∙ rw t (map-append f (filter set (range_with_len 0 n)) (n ∷ []))

  pub places_out : set n ≡ false → map f (places_of set (n + 1)) ≡ map f (places_of set n)
  places_out t =
      ap (λ ps. map f (filter set ps)) (more n) ∙ ap (map f) (filter-append set (range_with_len 0 n) (n ∷ []))
      ∙ rw t (ap (map f) (append-nil (filter set (range_with_len 0 n))))

-- all places are below the number
pub places_below : (set : ℕ → Bool) (n : ℕ) → All (λ p. p < n) (places_of set n)
places_below set n = All-filter set (λ p. p < n) (range_with_len 0 n)
    (λ k d below. let inside : k < n = rw (length-range_with_len 0 n) at below in omega (arith, inside, get_or-range_with_len 0 n k d inside))

from_zero : (k : ℕ) → k ≡ 0 + k
from_zero k = omega arith

-- what is at the names of a set is at their places
named_at : {Y : Type 0} (f : List ℕ → Y) (p : List ℕ → Bool) (g : ℕ → Y) (set : ℕ → Bool) (users : List (List ℕ)) (a : ℕ)
    → ((k : ℕ) → k < length users → p (name_at users k) ≡ set (a + k)) → ((k : ℕ) → k < length users → f (name_at users k) ≡ g (a + k))
    → map f (filter p users) ≡ map g (filter set (range_with_len a (length users)))
named_at f p g set [] a ps fs = refl
named_at f p g set (name ∷ users) a ps fs =
    let next : (k : ℕ) → a + suc k ≡ (a + 1) + k = λ k. omega arith in
    let own : a + 0 ≡ a = omega arith in
    let rest = named_at f p g set users (a + 1) (λ k below. ps (suc k) (omega arith) ∙ ap set (next k)) (λ k below. fs (suc k) (omega arith) ∙ ap g (next k)) in
    let p0 : p name ≡ set a = ps 0 (omega arith) ∙ ap set own in
    let f0 : f name ≡ g a = fs 0 (omega arith) ∙ ap g own in
    elim (either (set a)) [
      | inl t ↦ rw (p0, t) (λ i. f0 i ∷ rest i)
      | inr n ↦ rw (p0, n) rest
    ]

-- ---- the view

module _ (users : List (List ℕ)) (limit : ℕ) (trust : ℕ → ℕ → Bool) (goals : List (List Goal)) (table : List Source) (desks : List Holdings)
    (distinct : are_distinct users ≡ true) (paired : length desks ≡ length users) where
  abbrev setup : Setup
  setup = record { users = users; charge = limit }

  abbrev world : World
  world = desk_among (beside_at users trust goals) table users desks

  abbrev seen_at : ℕ → Desk
  seen_at k = desk_of (beside_at users trust goals k) table (desk_at desks k)

  -- the desk of the user at a place
  at_place : (k : ℕ) → k < length users → world (name_at users k) ≡ seen_at k
  at_place k below =
      let found : place_of users (name_at users k) ≡ Some k = places.place_found users k distinct below in
      desk_found (beside_at users trust goals) table users desks (name_at users k) k (desk_at desks k) (place_found users (name_at users k) k found)
      (place_there users desks (name_at users k) k bare paired found)

  linked : IsLinked users trust (trusts world)
  linked u below v = ap (λ (d : Desk). d.trusted v) (at_place u below)

  -- whom the user at a place reaches, by their names
  reach_is : (place : ℕ) (set : ℕ → Bool) → IsWithin (length users) trust → place < length users → IsReach trust place set
      → names users set ≡ reaches setup world (name_at users place)
  reach_is place set within inside reach = reached_names users trust (trusts world) place set distinct within linked inside reach

  pub reach_of : (actor : List ℕ) (place : ℕ) (set : ℕ → Bool) → IsWithin (length users) trust → place_of users actor ≡ Some place → IsReach trust place set
      → names users set ≡ reaches setup world actor
  reach_of actor place set within found reach =
      let own = places.name_found users actor place found in
      reach_is place set within own.0 reach ∙ ap (reaches setup world) own.1

  pub view_is : (place : ℕ) (set : ℕ → Bool) → IsWithin (length users) trust → place < length users → IsReach trust place set
      → view_of setup world (name_at users place) ≡ map seen_at (places_of set (length users))
  view_is place set within inside reach =
      let same : names users set ≡ reaches setup world (name_at users place) = reach_is place set within inside reach in
      named_at world (reaches setup world (name_at users place)) seen_at set users 0
      (λ k below.
      ap (λ (test : List ℕ → Bool). test (name_at users k)) (sym same)
      ∙ ap (is_at set) (places.place_found users k distinct below) ∙ ap set (from_zero k))
      (λ k below. at_place k below ∙ ap seen_at (from_zero k))

-- the desks at the places of all whom a user reaches are what he sees
pub is_view : (trust : ℕ → ℕ → Bool) (place : ℕ) (desks view : List Holdings) (set : ℕ → Bool) → place < length desks → IsReach trust place set
    → view ≡ map (desk_at desks) (places_of set (length desks)) → IsView trust place desks view
is_view trust place desks view set inside reach held = record {
  places = places_of set (length desks);
  inside = places_below set (length desks);
  held = held;
  seen = λ users limit goals table listed paired within.
      view_is users limit trust goals table desks (distinct_users users listed) paired place set within (omega (arith, inside, paired)) reach
      ∙ ap (λ n. map (λ p. desk_of (beside_at users trust goals p) table (desk_at desks p)) (places_of set n)) (sym paired);
}
