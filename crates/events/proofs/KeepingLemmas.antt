-- Events that are put into the places of those that they take back, and then taken back themselves, the last first.
use Rattle.std.proofs.Common.{◌≡◌, ℕ, ◌+◌, ◌<◌, Bool, true, false, ◌⊎◌, inl, inr, refl, sym, ◌∙◌, ap, subst, arith, List, [], ◌∷◌, ◌++◌, length, append-nil, append_assoc}
use Rattle.std.specs.Prelude.{if◌then◌else◌}
use Rattle.std.proofs.lemmas.List.{length-append, same_from_push}
use Rattle.model.specs.Worlds.{Setup, World, nothing, are_users}
use Rattle.model.specs.Events.{Event}
use Rattle.model.specs.Steps.{after, world_after}
use Rattle.model.specs.Timed.{near, reached_from, kept_from, strike_timed}
use Rattle.model.specs.Laws.{TrustFollows}
use Rattle.laws.proofs.KnowledgeLemmas.{world_after-push}
use Rattle.trust.specs.Trusting.{holds, IsReach, IsReachOf}
use Rattle.trust.specs.Naming.{name_at, names}
use Rattle.events.specs.Ever.{run_of}
use Rattle.events.specs.Undoing.{said_by, trust_with, undoing, trust_after, all_undoing, nobody, AreUndone}
use Rattle.events.proofs.UndoingLemmas.{event_back, trust_back, trust_after-push, all_undoing-push, length-all_undoing}
use Rattle.events.proofs.NearLemmas.{IsTrustOf, trust_of_nothing, trust_of_next, reached_near, before_near}

last_of : {X : Type 0} → (xs : List X) → (xs ≡ []) ⊎ ((ys : List X) × (y : X) × (xs ≡ ys ++ y ∷ []))
last_of [] = inl refl
last_of (x ∷ xs) = elim (last_of xs) [
  | inl none ↦ inr ([], x, ap (λ l. x ∷ l) none)
  | inr some ↦ inr (x ∷ some.0, some.1, ap (λ l. x ∷ l) some.2)
]

pub none_long : {X : Type 0} → (xs : List X) → length xs ≡ 0 → xs ≡ []
none_long [] e = refl
none_long (x ∷ xs) e = cc

-- ---- forwards

-- some events have their places behind the others, with those that take them back
pub record IsTurning (users : List (List ℕ)) (old : ℕ → ℕ → Bool) (all items : List Event) (trust : ℕ → ℕ → Bool) (turn : ℕ) : Type 0 where
  pub done : List Event
  pub rest : List Event
  pub cut : done ++ rest ≡ all
  pub count : length done ≡ turn
  pub items_are : items ≡ rest ++ all_undoing users old done
  pub trust_is : trust ≡ trust_after users old done

module _ (users : List (List ℕ)) (old : ℕ → ℕ → Bool) (all : List Event) where
  pub turning_first : IsTurning users old all all old 0
  unfolding trust_after all_undoing
  turning_first = record { done = []; rest = all; cut = refl; count = refl; items_are = sym (append-nil all); trust_is = refl }

  pub turning_next : (items left : List Event) (trust : ℕ → ℕ → Bool) (turn : ℕ) (e back : Event) (now : ℕ → ℕ → Bool)
      → IsTurning users old all items trust turn
      → turn < length all → items ≡ e ∷ left → back ≡ undoing (said_by users e) trust e → now ≡ trust_with (said_by users e) trust
      → IsTurning users old all (left ++ back ∷ []) now (turn + 1)
  turning_next items left trust turn e back now so below is back_is now_is = of so.rest refl
    where
      of : (rest : List Event) → so.rest ≡ rest → IsTurning users old all (left ++ back ∷ []) now (turn + 1)
      of [] none =
          let same : length so.done ≡ length all = ap length (sym (append-nil so.done) ∙ ap (λ l. so.done ++ l) (sym none) ∙ so.cut) in
          absurd (omega (arith, so.count))
      of (x ∷ rest) some =
          let both : e ∷ left ≡ x ∷ (rest ++ all_undoing users old so.done) = sym is ∙ so.items_are ∙ ap (λ l. l ++ all_undoing users old so.done) some in
          let first : e ≡ x = cc in
          let others : left ≡ rest ++ all_undoing users old so.done = cc in
          let trust_same : trust ≡ trust_after users old so.done = so.trust_is in
          let back_same : back ≡ undoing (said_by users x) (trust_after users old so.done) x = back_is ∙ (λ i. undoing (said_by users (first i)) (trust_same i) (first i)) in
          record {
            done = so.done ++ x ∷ [];
            rest = rest;
            cut = append_assoc so.done (x ∷ []) rest ∙ ap (λ l. so.done ++ l) (sym some) ∙ so.cut;
            count = length-append so.done (x ∷ []) ∙ (let c = so.count in omega arith);
            items_are =
                (λ i. others i ++ back_same i ∷ [])
                ∙ append_assoc rest (all_undoing users old so.done) (undoing (said_by users x) (trust_after users old so.done) x ∷ [])
                ∙ ap (λ l. rest ++ l) (sym (all_undoing-push users old so.done x));
            trust_is = now_is ∙ (λ i. trust_with (said_by users (first i)) (trust_same i)) ∙ sym (trust_after-push users old so.done x);
          }

  -- where nothing is left, all of them are turned
  turned_all : (items : List Event) (trust : ℕ → ℕ → Bool) (turn : ℕ) (so : IsTurning users old all items trust turn) → so.rest ≡ []
      → AreUndone users old all items trust
  turned_all items trust turn so none =
      let same : so.done ≡ all = sym (append-nil so.done) ∙ ap (λ l. so.done ++ l) (sym none) ∙ so.cut in
      record {
        trust = so.trust_is ∙ ap (trust_after users old) same;
        events = so.items_are ∙ ap (λ l. l ++ all_undoing users old so.done) none ∙ ap (all_undoing users old) same;
      }

  pub turning_last : (items : List Event) (trust : ℕ → ℕ → Bool) (turn : ℕ) → IsTurning users old all items trust turn → turn ≡ length all
      → AreUndone users old all items trust
  turning_last items trust turn so all_done =
      let lengths : length so.done + length so.rest ≡ length all = sym (length-append so.done so.rest) ∙ ap length so.cut in
      turned_all items trust turn so (none_long so.rest (let c = so.count in omega arith))

  pub turning_none : (items : List Event) (trust : ℕ → ℕ → Bool) (turn : ℕ) → IsTurning users old all items trust turn → items ≡ []
      → AreUndone users old all items trust
  turning_none items trust turn so none =
      let lengths : length so.rest + length (all_undoing users old so.done) ≡ 0 =
      sym (length-append so.rest (all_undoing users old so.done)) ∙ ap length (sym so.items_are ∙ none) in
      turned_all items trust turn so (none_long so.rest (omega arith))

-- ---- backwards

module _ (users : List (List ℕ)) (charge place : ℕ) (all : List Event) where
  abbrev setup : Setup
  setup = run_of users charge

  abbrev user : List ℕ
  user = name_at users place

  abbrev reached : List Event → World
  reached first = world_after setup nothing first

  -- behind those that are kept stand the events that take the first ones back
  pub record IsKeeping (items : List Event) (trust : ℕ → ℕ → Bool) (set turn : ℕ) : Type 0 where
    pub first : List Event
    pub later : List Event
    pub kept : List Event
    pub cut : first ++ later ≡ all
    pub count : length first + turn ≡ length all
    pub items_are : items ≡ kept ++ all_undoing users nobody first
    pub trust_is : trust ≡ trust_after users nobody first
    pub inside : (p : ℕ) → holds set p ≡ true → p < length users
    pub near_are : names users (holds set) ≡ near setup user (reached first) later
    pub kept_are : kept ≡ kept_from setup user (reached first) later

  module _ (listed : are_users users ≡ true) (follows : TrustFollows) where
    trust_reached_from : (events : List Event) (trust : ℕ → ℕ → Bool) (w : World) → IsTrustOf users charge trust w
        → IsTrustOf users charge (trust_after users trust events) (world_after setup w events)
    unfolding trust_after world_after
    trust_reached_from [] trust w is = is
    trust_reached_from (e ∷ events) trust w is =
        trust_reached_from events (trust_with (said_by users e) trust) (after setup w e) (trust_of_next users charge listed trust w is e follows)

    trust_reached : (first : List Event) → IsTrustOf users charge (trust_after users nobody first) (reached first)
    trust_reached first = trust_reached_from first nobody nothing (trust_of_nothing users charge)

    pub keeping_first : (items : List Event) (trust : ℕ → ℕ → Bool) (set : ℕ) → place < length users → AreUndone users nobody all items trust
        → IsReach trust place (holds set) → IsKeeping items trust set 0
    unfolding near kept_from
    keeping_first items trust set below undone reach =
        let start = reached_near users charge listed (trust_after users nobody all) (reached all) (trust_reached all) place (holds set) below
        (subst (λ t. IsReach t place (holds set)) undone.trust reach) in
        record {
          first = all;
          later = [];
          kept = [];
          cut = append-nil all;
          count = omega arith;
          items_are = undone.events;
          trust_is = undone.trust;
          inside = start.1;
          near_are = start.0;
          kept_are = refl;
        }

    pub keeping_next : (items left now : List Event) (trust earlier : ℕ → ℕ → Bool) (set before turn : ℕ) (back e : Event) → IsKeeping items trust set turn
        → turn < length all → items ≡ left ++ back ∷ [] → e ≡ undoing (said_by users back) trust back → earlier ≡ trust_with (said_by users back) trust
        → IsReachOf earlier (holds set) (holds before) → now ≡ (if names users (holds set) e.actor then e ∷ left else left)
        → IsKeeping now earlier before (turn + 1)
    unfolding near kept_from
    keeping_next items left now trust earlier set before turn back e so below is e_is earlier_is reach now_is = of (last_of so.first)
      where
        of : (so.first ≡ []) ⊎ ((ys : List Event) × (y : Event) × (so.first ≡ ys ++ y ∷ [])) → IsKeeping now earlier before (turn + 1)
        of (inl none) = absurd (let none_left : length so.first ≡ 0 = ap length none in let c = so.count in omega arith)
        of (inr (first, x, some)) =
            let w : World = reached first in
            let first_trust : ℕ → ℕ → Bool = trust_after users nobody first in
            let its_back : Event = undoing (said_by users x) first_trust x in
            let split : left ++ back ∷ [] ≡ (so.kept ++ all_undoing users nobody first) ++ its_back ∷ [] =
            sym is ∙ so.items_are ∙ ap (λ l. so.kept ++ all_undoing users nobody l) some ∙ ap (λ l. so.kept ++ l) (all_undoing-push users nobody first x)
            ∙ sym (append_assoc so.kept (all_undoing users nobody first) (its_back ∷ [])) in
            let parts = same_from_push left (so.kept ++ all_undoing users nobody first) back its_back split in
            let trust_same : trust ≡ trust_with (said_by users x) first_trust = so.trust_is ∙ ap (trust_after users nobody) some ∙ trust_after-push users nobody first x in
            let event_same : e ≡ x = e_is ∙ (λ i. undoing (said_by users (parts.1 i)) (trust_same i) (parts.1 i)) ∙ event_back users first_trust x in
            let earlier_same : earlier ≡ first_trust = earlier_is ∙ (λ i. trust_with (said_by users (parts.1 i)) (trust_same i)) ∙ trust_back users first_trust x in
            let world_same : reached so.first ≡ after setup w x = ap reached some ∙ world_after-push setup nothing first x in
            let near_then : names users (holds set) ≡ near setup user (after setup w x) so.later =
            so.near_are ∙ ap (λ (v : World). near setup user v so.later) world_same in
            let kept_then : so.kept ≡ kept_from setup user (after setup w x) so.later =
            so.kept_are ∙ ap (λ (v : World). kept_from setup user v so.later) world_same in
            let nearer = before_near users charge listed first_trust w (trust_reached first) (holds set) (holds before)
            (near setup user (after setup w x) so.later) so.inside near_then (subst (λ t. IsReachOf t (holds set) (holds before)) earlier_same reach) in
            let actor_near : names users (holds set) e.actor ≡ near setup user (after setup w x) so.later x.actor =
            (λ i. near_then i (event_same i).actor) in
            record {
              first = first;
              later = x ∷ so.later;
              kept = if names users (holds set) e.actor then e ∷ so.kept else so.kept;
              cut = sym (append_assoc first (x ∷ []) so.later) ∙ ap (λ l. l ++ so.later) (sym some) ∙ so.cut;
              count = (let long : length so.first ≡ length first + 1 = ap length some ∙ length-append first (x ∷ []) in let c = so.count in omega arith);
              items_are = now_is ∙ ap (λ l. if names users (holds set) e.actor then e ∷ l else l) parts.0 ∙ kept_before (names users (holds set) e.actor);
              trust_is = earlier_same;
              inside = nearer.1;
              near_are = nearer.0 ∙ near_step w x;
              kept_are = (λ i. if actor_near i then event_same i ∷ kept_then i else kept_then i) ∙ kept_step w x;
            }
          where
            kept_before : (b : Bool) → (if b then e ∷ (so.kept ++ all_undoing users nobody first) else so.kept ++ all_undoing users nobody first)
                ≡ (if b then e ∷ so.kept else so.kept) ++ all_undoing users nobody first
            kept_before true = refl
            kept_before false = refl

            near_step : (w : World) (x : Event) → reached_from setup w (near setup user (after setup w x) so.later) ≡ near setup user w (x ∷ so.later)
            near_step w x = refl

            kept_step : (w : World) (x : Event)
                → (if near setup user (after setup w x) so.later x.actor then x ∷ kept_from setup user (after setup w x) so.later
                else kept_from setup user (after setup w x) so.later) ≡ kept_from setup user w (x ∷ so.later)
            kept_step w x = refl

  all_kept : (items : List Event) (trust : ℕ → ℕ → Bool) (set turn : ℕ) (so : IsKeeping items trust set turn) → so.first ≡ []
      → items ≡ strike_timed setup user all
  unfolding all_undoing world_after
  all_kept items trust set turn so none =
      so.items_are ∙ ap (λ l. so.kept ++ all_undoing users nobody l) none ∙ append-nil so.kept ∙ so.kept_are
      ∙ ap (λ l. kept_from setup user (reached l) so.later) none ∙ ap (kept_from setup user nothing) (ap (λ l. l ++ so.later) (sym none) ∙ so.cut)

  pub keeping_last : (items : List Event) (trust : ℕ → ℕ → Bool) (set turn : ℕ) → IsKeeping items trust set turn → turn ≡ length all
      → items ≡ strike_timed setup user all
  keeping_last items trust set turn so done = all_kept items trust set turn so (none_long so.first (let c = so.count in omega arith))

  pub keeping_none : (items : List Event) (trust : ℕ → ℕ → Bool) (set turn : ℕ) → IsKeeping items trust set turn → items ≡ []
      → items ≡ strike_timed setup user all
  keeping_none items trust set turn so none =
      let lengths : length so.kept + length (all_undoing users nobody so.first) ≡ 0 =
      sym (length-append so.kept (all_undoing users nobody so.first)) ∙ ap length (sym so.items_are ∙ none) in
      let long : length (all_undoing users nobody so.first) ≡ length so.first = length-all_undoing users nobody so.first in
      all_kept items trust set turn so (none_long so.first (omega arith))
