-- Trust after events, by places, is that of the world after them; and so is who is near.
use Rattle.std.proofs.Common.{◌≡◌, ◌≢◌, ℕ, ◌<◌, Bool, true, false, inl, inr, refl, sym, ◌∙◌, ap, subst, arith, List, length, Option, Some, None}
use Rattle.std.specs.Prelude.{◌==◌, ◌&&◌, ◌||◌, not, nat_lt, bytes_eq, if◌then◌else◌}
use Rattle.std.specs.List.{list_any}
use Rattle.std.proofs.lemmas.Bool.{or_left, and_from}
use Rattle.std.proofs.lemmas.Bool.Decides.{nat_tests}
use Rattle.model.specs.Worlds.{Setup, World, nothing, is_user, are_users, are_distinct}
use Rattle.model.specs.Events.{Request, Trust, Distrust, Event}
use Rattle.model.specs.Outcomes.{trusts, reaches}
use Rattle.model.specs.Steps.{after}
use Rattle.model.specs.Timed.{reached_from, near, trusted_by, trusts_after}
use Rattle.model.specs.Laws.{TrustFollows}
use Rattle.model.proofs.BoolLemmas.{either, or_cases, both_parts, same_bytes, bytes_same}
use Rattle.model.proofs.ReachLemmas.{leads_least}
use Rattle.laws.proofs.TimedLemmas.{some_of, from_closed, IsClosed, IsOfUsers, users_after, no_trust}
use Rattle.trust.specs.Trusting.{with_pair, without_pair, with_said, IsReach, IsReachOf}
use Rattle.trust.specs.Trusting as places
use Rattle.trust.specs.Naming.{place_of, name_at, is_at, names, trusted_at, IsWithin, IsLinked}
use Rattle.trust.proofs.PlaceLemmas.{option_cases, place_found, name_found, same_place}
use Rattle.trust.proofs.NameLemmas.{trusted_by_nobody, trusted_added, trusted_removed, trusted_elsewhere, within_nobody, within_added, within_removed, reached_names, names_cases, same_tests}
use Rattle.trust.proofs.FirstPlaceLemmas as places_among
use Rattle.events.specs.declared.undoing.Said.{Said}
use Rattle.events.specs.Ever.{run_of}
use Rattle.events.specs.Undoing.{said_of, said_in, said_by, trust_with}
use Rattle.trust.proofs.UsersLemmas.{distinct_users}
use Rattle.events.proofs.EverLemmas.{found_below}
use Rattle.model.specs.Limits.{most_users}

-- ---- what is said, and of whom

-- a request says something of the users at two places
record IsSaid (users : List (List ℕ)) (actor : List ℕ) (request : Request) (said : Said) : Type 0 where
  named : List ℕ
  asks : request ≡ (if said.trusted then Trust named else Distrust named)
  user : place_of users actor ≡ Some said.user
  other : place_of users named ≡ Some said.other
  two : (said.other == said.user) ≡ false

turned : (m n : ℕ) → (m == n) ≡ (n == m)
turned m n = grind (arith, nat_tests)

said_places : (p q : Option ℕ) (trusted : Bool) (said : Said) → said_of p q trusted ≡ Some said
    → (p ≡ Some said.user) × (q ≡ Some said.other) × (said.trusted ≡ trusted) × ((said.other == said.user) ≡ false)
said_places None q trusted said is = cc
said_places (Some user) None trusted said is = cc
said_places (Some user) (Some other) trusted said is = elim (either (user == other)) [
  | inl one ↦ (let none : None ≡ Some said = rw one at is in cc)
  | inr two ↦
      let both : Some (record { user = user; other = other; trusted = trusted }) ≡ Some said = rw two at is in
      of _ said both (turned other user ∙ two)
]
  where
    of : (a b : Said) → Some a ≡ Some b → (a.other == a.user) ≡ false
        → (Some a.user ≡ Some b.user) × (Some a.other ≡ Some b.other) × (b.trusted ≡ a.trusted) × ((b.other == b.user) ≡ false)
    of a b e f =
        let same : a ≡ b = cc in (
          ap (λ (s : Said). Some s.user) same,
          ap (λ (s : Said). Some s.other) same,
          sym (ap (λ (s : Said). s.trusted) same),
          subst (λ (s : Said). (s.other == s.user) ≡ false) same f,
        )

said_is : (users : List (List ℕ)) (actor : List ℕ) (request : Request) (said : Said) → said_in users actor request ≡ Some said → IsSaid users actor request said
said_is users actor (Trust named) said is =
    let parts = said_places (place_of users actor) (place_of users named) true said is in
    record { named = named; asks = rw parts.2 refl; user = parts.0; other = parts.1; two = parts.3 }
said_is users actor (Distrust named) said is =
    let parts = said_places (place_of users actor) (place_of users named) false said is in
    record { named = named; asks = rw parts.2 refl; user = parts.0; other = parts.1; two = parts.3 }
said_is users actor request said is = cc

-- both are places of users of the run
pub said_below : (users : List (List ℕ)) (e : Event) (said : Said) → are_users users ≡ true → said_by users e ≡ Some said → (said.user < most_users) × (said.other < most_users)
said_below users e said listed is =
    let so = said_is users e.actor e.request said is in
    ((found_below users e.actor said.user listed so.user).1, (found_below users so.named said.other listed so.other).1)

strangers_say_nothing : (users : List (List ℕ)) (actor : List ℕ) (request : Request) → place_of users actor ≡ None → said_in users actor request ≡ None
strangers_say_nothing users actor (Trust other) none = rw none refl
strangers_say_nothing users actor (Distrust other) none = rw none refl
strangers_say_nothing users actor request none = refl

module _ (users : List (List ℕ)) (charge : ℕ) where
  abbrev setup : Setup
  setup = run_of users charge

  -- trust by places is that of a world, and nobody trusts himself
  pub record IsTrustOf (trust : ℕ → ℕ → Bool) (w : World) : Type 0 where
    pub within : IsWithin (length users) trust
    pub none_himself : (u : ℕ) → trust u u ≡ false
    pub linked : IsLinked users trust (trusts w)
    pub of_users : IsOfUsers setup w

  pub trust_of_nothing : IsTrustOf (λ u v. false) nothing
  trust_of_nothing = record {
    within = within_nobody (length users);
    none_himself = λ u. refl;
    linked = λ u below v. sym (ap (λ (t : List ℕ → Bool). t v) (trusted_by_nobody users u));
    of_users = no_trust setup;
  }

  -- one who trusts as before, since nothing is said
  unsaid : (actor : List ℕ) (a : ℕ) (request : Request) (trusted : List ℕ → Bool) (y : List ℕ) → are_distinct users ≡ true → place_of users actor ≡ Some a
      → said_in users actor request ≡ None → trusted actor ≡ false → trusted_by setup actor request trusted y ≡ trusted y
  unsaid actor a (Trust other) trusted y distinct found none himself = elim (option_cases (place_of users other)) [
    | inl e ↦ rw (places_among.no_place users other e) refl
    | inr p ↦ elim (either (a == p.0)) [
      | inl one ↦
          let own = name_found users actor a found in
          let same : bytes_eq other actor ≡ true = ap (bytes_eq other) (sym own.1) ∙ same_place users other p.0 a distinct own.0 p.1 ∙ turned p.0 a ∙ one in
          rw same (if_no (is_user setup other) _ _)
      | inr two ↦ (let some : said_of (Some a) (Some p.0) true ≡ None = rw (found, p.1) at none in let no = rw two at some in cc)
    ]
  ]
    where
      if_no : (b c d : Bool) → (if b && false then c else d) ≡ d
      if_no true c d = refl
      if_no false c d = refl
  unsaid actor a (Distrust other) trusted y distinct found none himself = elim (option_cases (place_of users other)) [
    | inl e ↦ rw (places_among.no_place users other e) refl
    | inr p ↦ elim (either (a == p.0)) [
      | inl one ↦
          let own = name_found users actor a found in
          let same : bytes_eq other actor ≡ true = ap (bytes_eq other) (sym own.1) ∙ same_place users other p.0 a distinct own.0 p.1 ∙ turned p.0 a ∙ one in
          let is : other ≡ actor = same_bytes other actor same in
          elim (either (is_user setup other)) [
            | inl known ↦ rw known (elim (either (bytes_eq y other)) [
              | inl him ↦ rw him (sym (ap trusted (same_bytes y other him ∙ is) ∙ himself))
              | inr another ↦ rw another refl
            ])
            | inr unknown ↦ rw unknown refl
          ]
      | inr two ↦ (let some : said_of (Some a) (Some p.0) false ≡ None = rw (found, p.1) at none in let no = rw two at some in cc)
    ]
  ]
  unsaid actor a request trusted y distinct found none himself = refl

  module _ (listed : are_users users ≡ true) (trust : ℕ → ℕ → Bool) (w : World) (is : IsTrustOf trust w) (e : Event) where
    distinct : are_distinct users ≡ true
    distinct = distinct_users users listed

    -- the user at the actor's place, of whom something is said, trusts as the event says
    said_linked : (said : Said) → IsSaid users e.actor e.request said → (v : List ℕ)
        → trusted_by setup e.actor e.request (trusts w (name_at users said.user)) v ≡ trusted_at users (trust_with (Some said) trust) said.user v
    said_linked said so v =
        let user = name_found users e.actor said.user so.user in
        let other = name_found users so.named said.other so.other in
        let known : is_user setup so.named ≡ true = places_among.place_is_among users so.named said.other (places_among.place_found users so.named said.other so.other) in
        let apart : bytes_eq so.named e.actor ≡ false =
        ap (bytes_eq so.named) (sym user.1) ∙ same_place users so.named said.other said.user distinct user.0 so.other ∙ so.two in
        ap (λ (r : Request). trusted_by setup e.actor r (trusts w (name_at users said.user)) v) so.asks
        ∙ of said.trusted known apart
      where
        of : (b : Bool) → is_user setup so.named ≡ true → bytes_eq so.named e.actor ≡ false
            → trusted_by setup e.actor (if b then Trust so.named else Distrust so.named) (trusts w (name_at users said.user)) v
            ≡ trusted_at users (with_said said.user said.other b trust) said.user v
        of true known apart =
            let user = name_found users e.actor said.user so.user in
            let other = name_found users so.named said.other so.other in
            rw (known, apart)
            (ap (λ b. bytes_eq v so.named || b) (is.linked said.user user.0 v)
            ∙ sym (ap (λ (t : List ℕ → Bool). t v) (trusted_added users trust said.user said.other distinct other.0)
            ∙ ap (λ n. bytes_eq v n || trusted_at users trust said.user v) other.1))
        of false known apart =
            let user = name_found users e.actor said.user so.user in
            let other = name_found users so.named said.other so.other in
            rw known
            (ap (λ b. not (bytes_eq v so.named) && b) (is.linked said.user user.0 v)
            ∙ sym (ap (λ (t : List ℕ → Bool). t v) (trusted_removed users trust said.user said.other distinct other.0)
            ∙ ap (λ n. not (bytes_eq v n) && trusted_at users trust said.user v) other.1))

    -- others trust as before
    other_linked : (o : Option Said) → said_by users e ≡ o → (u : ℕ) → bytes_eq (name_at users u) e.actor ≡ false → (v : List ℕ)
        → trusted_at users (trust_with o trust) u v ≡ trusted_at users trust u v
    other_linked None said u apart v = refl
    other_linked (Some s) said u apart v =
        let so = said_is users e.actor e.request s said in
        let user = name_found users e.actor s.user so.user in
        let differs : u ≢ s.user = λ same. (let here : bytes_eq (name_at users u) e.actor ≡ true = ap (λ n. bytes_eq n e.actor) (ap (name_at users) same ∙ user.1) ∙ bytes_same e.actor in cc) in
        let elsewhere = trusted_elsewhere users trust s.user s.other u differs in
        of s.trusted elsewhere
      where
        of : (b : Bool)
            → (trusted_at users (with_pair s.user s.other trust) u ≡ trusted_at users trust u) × (trusted_at users (without_pair s.user s.other trust) u ≡ trusted_at users trust u)
            → trusted_at users (with_said s.user s.other b trust) u v ≡ trusted_at users trust u v
        of true both = ap (λ (t : List ℕ → Bool). t v) both.0
        of false both = ap (λ (t : List ℕ → Bool). t v) both.1

    himself : (u : ℕ) → u < length users → trusts w (name_at users u) (name_at users u) ≡ false
    himself u below = is.linked u below (name_at users u) ∙ ap (is_at (trust u)) (place_found users u distinct below) ∙ is.none_himself u

    next_linked : (o : Option Said) → said_by users e ≡ o → (u : ℕ) → u < length users → (v : List ℕ)
        → trusts_after setup e (trusts w) (name_at users u) v ≡ trusted_at users (trust_with o trust) u v
    next_linked o said u below v = elim (option_cases (place_of users e.actor)) [
      | inl none ↦
          let unknown : is_user setup e.actor ≡ false = places_among.no_place users e.actor none in
          let nothing_said : o ≡ None = sym said ∙ strangers_say_nothing users e.actor e.request none in
          if_not (bytes_eq (name_at users u) e.actor) (is_user setup e.actor) _ _ unknown ∙ is.linked u below v
          ∙ sym (ap (λ o. trusted_at users (trust_with o trust) u v) nothing_said)
      | inr p ↦ elim (either (bytes_eq (name_at users u) e.actor)) [
        | inl t ↦
            let known : is_user setup e.actor ≡ true = places_among.place_is_among users e.actor p.0 (places_among.place_found users e.actor p.0 p.1) in
            rw (t, known) (of_actor o said p.0 p.1 t)
        | inr f ↦ rw f (is.linked u below v ∙ sym (other_linked o said u f v))
      ]
    ]
      where
        if_not : (b c s t : Bool) → c ≡ false → (if b && c then s else t) ≡ t
        if_not true c s t f = rw f refl
        if_not false c s t f = refl

        of_actor : (o : Option Said) → said_by users e ≡ o → (a : ℕ) → place_of users e.actor ≡ Some a → bytes_eq (name_at users u) e.actor ≡ true
            → trusted_by setup e.actor e.request (trusts w (name_at users u)) v ≡ trusted_at users (trust_with o trust) u v
        of_actor None said a found t =
            let same : name_at users u ≡ e.actor = same_bytes (name_at users u) e.actor t in
            unsaid e.actor a e.request (trusts w (name_at users u)) v distinct found said (ap (trusts w (name_at users u)) (sym same) ∙ himself u below)
            ∙ is.linked u below v
        of_actor (Some s) said a found t =
            let so = said_is users e.actor e.request s said in
            let user = name_found users e.actor s.user so.user in
            let same : name_at users u ≡ e.actor = same_bytes (name_at users u) e.actor t in
            let here : Some u ≡ Some s.user = sym (place_found users u distinct below) ∙ ap (place_of users) same ∙ so.user in
            let is_place : u ≡ s.user = cc in
            subst (λ n. trusted_by setup e.actor e.request (trusts w (name_at users n)) v ≡ trusted_at users (trust_with (Some s) trust) n v) (sym is_place)
            (said_linked s so v)

    next_within : (o : Option Said) → said_by users e ≡ o → IsWithin (length users) (trust_with o trust)
    next_within None said = is.within
    next_within (Some s) said = of s.trusted
      where
        of : (b : Bool) → IsWithin (length users) (with_said s.user s.other b trust)
        of true =
            let so = said_is users e.actor e.request s said in
            within_added (length users) trust s.user s.other (name_found users so.named s.other so.other).0 is.within
        of false = within_removed (length users) trust s.user s.other is.within

    next_himself : (o : Option Said) → said_by users e ≡ o → (u : ℕ) → trust_with o trust u u ≡ false
    next_himself None said u = is.none_himself u
    next_himself (Some s) said u = of s.trusted
      where
        apart : (u == s.user && u == s.other) ≡ false
        apart = elim (either (u == s.user && u == s.other)) [
          | inl t ↦
              let so = said_is users e.actor e.request s said in
              let parts = both_parts (u == s.user) (u == s.other) t in
              let same : (s.other == s.user) ≡ true = (let a = parts.0 in let b = parts.1 in grind (arith, nat_tests)) in
              (let no : true ≡ false = sym same ∙ so.two in cc)
          | inr f ↦ f
        ]

        of : (b : Bool) → with_said s.user s.other b trust u u ≡ false
        of true = rw apart (is.none_himself u)
        of false = rw apart (is.none_himself u)

    pub trust_of_next : TrustFollows → IsTrustOf (trust_with (said_by users e) trust) (after setup w e)
    trust_of_next follows = record {
      within = next_within (said_by users e) refl;
      none_himself = next_himself (said_by users e) refl;
      linked = λ u below v. follows setup w e (name_at users u) v ∙ next_linked (said_by users e) refl u below v;
      of_users = users_after setup w e is.of_users;
    }

  -- ---- who is near

  module _ (listed : are_users users ≡ true) (trust : ℕ → ℕ → Bool) (w : World) (is : IsTrustOf trust w) where
    all_distinct : are_distinct users ≡ true
    all_distinct = distinct_users users listed

    is_below : (p : ℕ) → p < length users → nat_lt p (length users) ≡ true
    is_below p below = grind (arith, nat_tests)

    below_is : (p : ℕ) → nat_lt p (length users) ≡ true → p < length users
    below_is p t = grind (arith, nat_tests)

    trusted_is : (u v : ℕ) → u < length users → v < length users → trusts w (name_at users u) (name_at users v) ≡ trust u v
    trusted_is u v below also = is.linked u below (name_at users v) ∙ ap (is_at (trust u)) (place_found users v all_distinct also)

    -- those whom one user reaches
    pub reached_near : (place : ℕ) (set : ℕ → Bool) → place < length users → IsReach trust place set
        → (names users set ≡ reaches setup w (name_at users place)) × ((p : ℕ) → set p ≡ true → p < length users)
    reached_near place set below reach = (
      reached_names users trust (trusts w) place set all_distinct is.within is.linked below reach,
      λ p there. below_is p (reach.least (λ q. nat_lt q (length users)) (is_below place below) (λ u v t on. is_below v (is.within u v (below_is u t) on)) p there),
    )

    -- those whom users who are near reach
    pub before_near : (old new : ℕ → Bool) (set : List ℕ → Bool) → ((p : ℕ) → old p ≡ true → p < length users) → names users old ≡ set
        → IsReachOf trust old new
        → (names users new ≡ reached_from setup w set) × ((p : ℕ) → new p ≡ true → p < length users)
    before_near old new set inside same reach = (
      (λ i name. same_tests (names users new name) (reached_from setup w set name) (to_names name) (to_places name) i),
      (λ p there. below_is p (reach.least (λ q. nat_lt q (length users)) (λ u t. is_below u (inside u t)) (λ u v t on. is_below v (is.within u v (below_is u t) on)) p there)),
    )
      where
        others : ℕ → Bool
        others place = nat_lt place (length users) && reached_from setup w set (name_at users place)

        there : (place : ℕ) → old place ≡ true → set (name_at users place) ≡ true
        there place t =
            ap (λ (s : List ℕ → Bool). s (name_at users place)) (sym same) ∙ ap (is_at old) (place_found users place all_distinct (inside place t)) ∙ t

        own : (place : ℕ) → old place ≡ true → others place ≡ true
        own place t = and_from (nat_lt place (length users)) (reached_from setup w set (name_at users place)) (is_below place (inside place t))
            (or_left (set (name_at users place)) _ (there place t))

        shut : places.IsClosed trust others
        shut u v o t =
            let parts = both_parts (nat_lt u (length users)) (reached_from setup w set (name_at users u)) o in
            let below : u < length users = below_is u parts.0 in
            let also : v < length users = is.within u v below t in
            and_from (nat_lt v (length users)) (reached_from setup w set (name_at users v)) (is_below v also)
            (from_closed setup w is.of_users set (name_at users u) (name_at users v) parts.1 (trusted_is u v below also ∙ t))

        to_names : (name : List ℕ) → names users new name ≡ true → reached_from setup w set name ≡ true
        to_names name t =
            let found = names_cases users new name t in
            let o : others found.0 ≡ true = reach.least others own shut found.0 found.2 in
            ap (reached_from setup w set) (sym found.4) ∙ (both_parts (nat_lt found.0 (length users)) (reached_from setup w set (name_at users found.0)) o).1

        near_named : (name : List ℕ) → set name ≡ true → names users new name ≡ true
        near_named name t =
            let found = names_cases users old name (ap (λ (s : List ℕ → Bool). s name) same ∙ t) in
            ap (is_at new) found.1 ∙ reach.own found.0 found.2

        closed : IsClosed (names users new) w
        closed v x s l =
            let found = names_cases users new v s in
            let t : trusted_at users trust found.0 x ≡ true = sym (is.linked found.0 found.3 x) ∙ ap (λ n. trusts w n x) found.4 ∙ l in
            let next = names_cases users (trust found.0) x t in
            ap (is_at new) next.1 ∙ reach.closed found.0 next.0 found.2 next.2

        to_places : (name : List ℕ) → reached_from setup w set name ≡ true → names users new name ≡ true
        to_places name t = elim (or_cases (set name) (list_any (λ x. set x && reaches setup w x name) users) t) [
          | inl near ↦ near_named name near
          | inr others ↦
              let s = some_of (λ x. set x && reaches setup w x name) users others in
              let parts = both_parts (set s.0) (reaches setup w s.0 name) s.2 in
              leads_least (trusts w) (names users new) closed users s.0 name (near_named s.0 parts.0) parts.1
        ]
