-- Whom users trust after an event.
use Rattle.std.proofs.Common.{◌≡◌, ℕ, Bool, true, false, inl, inr, refl, sym, ◌∙◌, ap, List, Ok, Err}
use Rattle.std.specs.Prelude.{◌&&◌, bytes_eq, if◌then◌else◌}
use Rattle.model.specs.declared.refusal.Refusal.TheVariants.{UnknownUser}
use Rattle.model.specs.Worlds.{Setup, is_user, Desk, World, Entry, with_entries}
use Rattle.model.specs.Endings.{End, Output, Failure}
use Rattle.model.specs.Events.{Request, AddSource, AddDerivation, Offer, Trust, Distrust, Pin, Unpin, Take, Build, Plan, Start, Finish, Fail, Forget, Event}
use Rattle.model.specs.Outcomes.{trusts, reaches, Observation, observation_of, Outcome, check, desk_after}
use Rattle.model.specs.EndRequests.{end_job}
use Rattle.model.specs.Steps.{outcome, outcome_of, after}
use Rattle.model.specs.Timed.{trusted_by, trusts_after}
use Rattle.model.proofs.BoolLemmas.{either, same_bytes, bytes_same}
use Rattle.laws.proofs.GoalLemmas.{keeps_delivered}
use Rattle.laws.proofs.QueryLemmas.{query_cases}
use Rattle.laws.proofs.SourceRequestLemmas.{add_source_cases}
use Rattle.laws.proofs.DerivationRequestLemmas.{add_derivation_cases}
use Rattle.laws.proofs.OfferRequestLemmas.{offer_cases}
use Rattle.laws.proofs.PinRequestLemmas.{pin_cases}
use Rattle.laws.proofs.EntriesLemmas.{entries_added}
use Rattle.laws.proofs.ClosureRequestLemmas.{take_cases}
use Rattle.laws.proofs.GoalRequestLemmas.{build_cases, plan_cases, start_cases}
use Rattle.laws.proofs.EndRequestLemmas.{end_job_cases}
use Rattle.laws.proofs.ForgetRequestLemmas.{forget_cases}

module _ (setup : Setup) (s : Observation) (y : List ℕ) where
  -- whether the user trusts y after an outcome; a refusal changes nothing
  abbrev trusts_then : Outcome → Bool
  trusts_then (Err why) = s.desk.trusted y
  trusts_then (Ok c) = c.desk.trusted y

  -- he trusts whom he trusted
  abbrev Stays : Outcome → Type 0
  Stays o = trusts_then o ≡ s.desk.trusted y

  copied : (entries : List Entry) → (with_entries entries s.desk).trusted y ≡ s.desk.trusted y
  copied entries = ap (λ (t : List ℕ → Bool). t y) (entries_added entries s.desk).trusted

  ends : (n : ℕ) (end : End) → Stays (end_job setup s n end)
  ends n end = end_job_cases Stays setup s n end (λ g there leads. refl) refl (λ absent. refl)

  trusting : (other : List ℕ) → trusts_then (outcome setup s (Trust other)) ≡ trusted_by setup s.user (Trust other) s.desk.trusted y
  unfolding outcome
  trusting other = elim (either (is_user setup other)) [
    | inl known ↦ elim (either (bytes_eq other s.user)) [ inl own ↦ rw (known, own) refl | inr another ↦ rw (known, another) refl ]
    | inr stranger ↦ rw stranger refl
  ]

  distrusting : (other : List ℕ) → trusts_then (outcome setup s (Distrust other)) ≡ trusted_by setup s.user (Distrust other) s.desk.trusted y
  unfolding outcome
  distrusting other = elim (either (is_user setup other)) [ inl known ↦ rw known refl | inr stranger ↦ rw stranger refl ]

  requested : (r : Request) → trusts_then (outcome setup s r) ≡ trusted_by setup s.user r s.desk.trusted y
  unfolding outcome
  requested (AddSource name tree) = add_source_cases Stays setup s.desk name tree refl refl refl
  requested (AddDerivation text) =
      add_derivation_cases Stays setup s.desk text
      (record { had = λ a. refl; added = λ derivation a is. refl; over = refl; unread = refl; missing = refl; high = refl }) (λ large. refl)
  requested (Offer path tree) =
      offer_cases Stays setup s.desk path tree (record { had = λ r. refl; added = λ r. refl; over = refl; refused = λ why. refl; unknown = λ absent. refl })
  requested (Trust other) = trusting other
  requested (Distrust other) = distrusting other
  requested (Pin class path) = pin_cases Stays setup s.desk class path refl refl
  requested (Unpin class) = refl
  requested (Take class) = take_cases Stays s class setup (λ entries path given there. copied entries) refl refl (λ why. refl) refl
  requested (Build path) = build_cases Stays s.desk path (λ a known. refl) (λ full. refl) (λ unknown. refl)
  requested (Plan n) =
      plan_cases Stays s n
      (record { resolved = λ g r. refl; failed = λ g why. refl; unrealised = refl; unknown = refl; untimely = refl; absent = λ absent. refl })
  requested (Start n) = start_cases Stays setup s n (record {
    entered = λ g r. copied r.closure;
    had = λ g r q. copied r.closure;
    added = λ g r q. copied r.closure;
    full = λ g r. copied r.closure;
    over = λ g. refl;
    untimely = refl;
    absent = λ absent. refl;
  })
  requested (Finish n bytes) = ends n (Output bytes)
  requested (Fail n status) = ends n Failure
  requested (Forget class path) = forget_cases Stays s class path refl refl refl
  requested query = query_cases Stays setup s query refl (λ reply own. refl) (λ why own. refl)

  -- nor does the notification change whom he trusts
  own_after : (actor : List ℕ) (o : Outcome) (reached : Bool) (d : Desk) → d ≡ s.desk → (desk_after setup actor o actor reached d).trusted y ≡ trusts_then o
  own_after actor (Err why) reached d is = ap (λ (e : Desk). e.trusted y) is
  own_after actor (Ok c) reached d is =
      ap (λ (t : List ℕ → Bool). t y) (keeps_delivered setup actor reached c.notification (if bytes_eq actor actor then c.desk else d)).trusted
      ∙ rw (bytes_same actor) refl

-- and of others it is no matter what the outcome is
other_after : (setup : Setup) (actor : List ℕ) (o : Outcome) (x : List ℕ) (reached : Bool) (d : Desk) (y : List ℕ) → bytes_eq x actor ≡ false
    → (desk_after setup actor o x reached d).trusted y ≡ d.trusted y
other_after setup actor (Err why) x reached d y f = refl
other_after setup actor (Ok c) x reached d y f =
    ap (λ (t : List ℕ → Bool). t y) (keeps_delivered setup actor reached c.notification (if bytes_eq x actor then c.desk else d)).trusted ∙ rw f refl

stranger_after : (setup : Setup) (w : World) (e : Event) (x y : List ℕ) → is_user setup e.actor ≡ false → trusts (after setup w e) x y ≡ trusts w x y
stranger_after setup w e x y f = of (is_user setup e.actor) f
  where
    of : (b : Bool) → b ≡ false
        → (desk_after setup e.actor (check UnknownUser b (outcome setup (observation_of setup w e.actor) e.request)) x (reaches setup w x e.actor) (w x)).trusted y ≡ (w x).trusted y
    of b f = rw f refl

actor_after : (setup : Setup) (w : World) (e : Event) (y : List ℕ) → is_user setup e.actor ≡ true
    → trusts (after setup w e) e.actor y ≡ trusted_by setup e.actor e.request (trusts w e.actor) y
actor_after setup w e y h =
    own_after setup (observation_of setup w e.actor) y e.actor (outcome_of setup w e) (reaches setup w e.actor e.actor) (w e.actor) refl ∙ of (is_user setup e.actor) h
    ∙ requested setup (observation_of setup w e.actor) y e.request
  where
    of : (b : Bool) → b ≡ true
        → trusts_then setup (observation_of setup w e.actor) y (check UnknownUser b (outcome setup (observation_of setup w e.actor) e.request))
        ≡ trusts_then setup (observation_of setup w e.actor) y (outcome setup (observation_of setup w e.actor) e.request)
    of b h = rw h refl

pub trust_after : (setup : Setup) (w : World) (e : Event) (x y : List ℕ) → trusts (after setup w e) x y ≡ trusts_after setup e (trusts w) x y
trust_after setup w e x y = elim (either (is_user setup e.actor)) [
  | inl known ↦ elim (either (bytes_eq x e.actor)) [
    | inl is ↦
        let same : x ≡ e.actor = same_bytes x e.actor is in
        rw (is, known)
        (ap (λ z. trusts (after setup w e) z y) same ∙ actor_after setup w e y known ∙ ap (λ z. trusted_by setup e.actor e.request (trusts w z) y) (sym same))
    | inr f ↦ rw f (other_after setup e.actor (outcome_of setup w e) x (reaches setup w x e.actor) (w x) y f)
  ]
  | inr stranger ↦ stranger_after setup w e x y stranger ∙ sym (of (bytes_eq x e.actor) (is_user setup e.actor) stranger)
]
  where
    of : (a b : Bool) → b ≡ false → (if a && b then trusted_by setup e.actor e.request (trusts w x) y else trusts w x y) ≡ trusts w x y
    of true b f = rw f refl
    of false b f = refl
