-- Where only the events are run that can reach a user, nothing is hashed that is not hashed where all are run.
use Rattle.std.proofs.Common.{◌≡◌, ℕ, Bool, true, false, inl, inr, refl, sym, ◌∙◌, ap, subst, List, [], ◌∷◌, ◌++◌, Option, Some, None, Ok, Err}
use Rattle.std.specs.Prelude.{All, Contains, filter, flat_map, bytes_eq, if◌then◌else◌}
use Rattle.std.specs.List.{list_any}
use Rattle.std.proofs.lemmas.Bool.{or_left, or_right}
use Rattle.std.proofs.lemmas.List.Elements.{All-nil, All-cons, All-head, All-tail, All-append, All-contains_itself}
use Rattle.model.specs.Archives.{Tree}
use Rattle.model.specs.ArchiveReading.{tree_of_archive}
use Rattle.model.specs.Worlds.{Job, Desk, World, nothing, Setup, is_user}
use Rattle.model.specs.Goals.{goal_at, members}
use Rattle.model.specs.Events.{Request, AddDerivation, Offer, Closure, Take, Plan, Finish, Event}
use Rattle.model.specs.Outcomes.{reaches, Observation, Outcome, desk_after}
use Rattle.model.specs.Steps.{outcome_of, after}
use Rattle.model.specs.DerivationRequests.{derivation_texts}
use Rattle.model.specs.OfferRequests.{offer_texts}
use Rattle.model.specs.ClosureRequests.{texts_for}
use Rattle.model.specs.GoalRequests.{plan_texts}
use Rattle.model.specs.EndRequests.{desk_texts, job_texts, leads_job}
use Rattle.model.specs.HashedTexts.{texts_of, texts_of_event, hashed}
use Rattle.model.specs.Striking.{gives_trust, ever}
use Rattle.model.specs.Laws.{StrikingHashesNoMore}
use Rattle.model.proofs.BoolLemmas.{either, same_bytes}
use Rattle.model.proofs.ReachLemmas.{leads-IsLeastSet}
use Rattle.laws.proofs.GoalLemmas.{Under, delivered_nothing}
use Rattle.laws.proofs.AgreeLemmas.{Agree, leads_agree, observation_agree}
use Rattle.laws.proofs.StrikeLemmas.{IsInward, after_agree, after_stranger, gives_user}

-- what holds of texts holds of the first of them, and of those behind
all_front : (P : List ℕ → Type 0) (xs ys : List (List ℕ)) → All P (xs ++ ys) → All P xs
all_front P [] ys h = All-nil P
all_front P (x ∷ xs) ys h = All-cons P x xs (All-head P x (xs ++ ys) h) (all_front P xs ys (All-tail P x (xs ++ ys) h))

all_back : (P : List ℕ → Type 0) (xs ys : List (List ℕ)) → All P (xs ++ ys) → All P ys
all_back P [] ys h = h
all_back P (x ∷ xs) ys h = all_back P xs ys (All-tail P x (xs ++ ys) h)

-- those outside a set have done nothing
abbrev AreIdle : (List ℕ → Bool) → World → Type 0
AreIdle set v = (x : List ℕ) → set x ≡ false → v x ≡ nothing x

-- a desk of one who has done nothing receives nothing
idle_after : (setup : Setup) (actor : List ℕ) (o : Outcome) (x : List ℕ) (reached : Bool) (d : Desk) → bytes_eq x actor ≡ false → d ≡ nothing x
    → desk_after setup actor o x reached d ≡ nothing x
idle_after setup actor (Err why) x reached d other idle = idle
idle_after setup actor (Ok c) x reached d other idle =
    let nobody : List ℕ → Bool = λ y. false in
    let goals : All (Under nobody) d.goals = subst (λ (e : Desk). All (Under nobody) e.goals) (sym idle) (All-nil (Under nobody)) in
    rw other (delivered_nothing setup nobody actor reached c.notification d refl goals ∙ idle)

-- and so those outside a set stay where one of the set acts
stay_idle : (setup : Setup) (set : List ℕ → Bool) (v : World) (e : Event) → set e.actor ≡ true → AreIdle set v → AreIdle set (after setup v e)
stay_idle setup set v e h idle x outside =
    let other : bytes_eq x e.actor ≡ false = elim (either (bytes_eq x e.actor)) [
      | inl t ↦ (let yes : set x ≡ true = subst (λ z. set z ≡ true) (sym (same_bytes x e.actor t)) h in cc)
      | inr f ↦ f
    ] in
    idle_after setup e.actor (outcome_of setup v e) x (reaches setup v x e.actor) (v x) other (idle x outside)

module _ (P : List ℕ → Type 0) where
  -- what holds of some texts, where there are any, holds of others
  where_any : (b : Bool) (xs ys : List (List ℕ)) → (All P xs → All P ys) → All P (if b then xs else []) → All P (if b then ys else [])
  where_any true xs ys within all = within all
  where_any false xs ys within all = all

  module _ (setup : Setup) (set : List ℕ → Bool) (w v : World) (agree : Agree set w v) (idle : AreIdle set v) where
    -- the texts of the goals in a job, for the users who reach its leader
    users_within : (job : Job) (tree : Tree) (users : List (List ℕ))
        → All P (flat_map (λ x. desk_texts job tree (w x)) (filter (λ x. reaches setup w x job.leader) users))
        → All P (flat_map (λ x. desk_texts job tree (v x)) (filter (λ x. reaches setup v x job.leader) users))
    unfolding members
    users_within job tree [] all = all
    users_within job tree (x ∷ users) all =
        let rest : List (List ℕ) = flat_map (λ y. desk_texts job tree (w y)) (filter (λ y. reaches setup w y job.leader) users) in
        let rest' : List (List ℕ) = flat_map (λ y. desk_texts job tree (v y)) (filter (λ y. reaches setup v y job.leader) users) in
        elim (either (set x)) [
          | inl s ↦
              let same : reaches setup w x job.leader ≡ reaches setup v x job.leader = leads_agree set w v agree setup.users x job.leader s in
              let own : desk_texts job tree (w x) ≡ desk_texts job tree (v x) = ap (desk_texts job tree) (agree.desks x s) in
              elim (either (reaches setup w x job.leader)) [
                | inl t ↦
                    let both : All P (desk_texts job tree (w x) ++ rest) = rw t at all in
                    rw (sym same ∙ t)
                    (All-append P (desk_texts job tree (v x)) rest' (subst (All P) own (all_front P (desk_texts job tree (w x)) rest both))
                    (users_within job tree users (all_back P (desk_texts job tree (w x)) rest both)))
                | inr f ↦ rw (sym same ∙ f) (users_within job tree users (rw f at all))
              ]
          | inr outside ↦
              let later : All P rest = elim (either (reaches setup w x job.leader)) [
                | inl t ↦ all_back P (desk_texts job tree (w x)) rest (rw t at all)
                | inr f ↦ rw f at all
              ] in
              let none : desk_texts job tree (v x) ≡ [] = ap (desk_texts job tree) (idle x outside) in
              elim (either (reaches setup v x job.leader)) [
                | inl t ↦ rw (t, none) (users_within job tree users later)
                | inr f ↦ rw f (users_within job tree users later)
              ]
        ]

    job_within : (job : Job) (o : Option Tree) → All P (job_texts setup w job o) → All P (job_texts setup v job o)
    job_within job None all = all
    job_within job (Some tree) all = users_within job tree setup.users all

    -- those of a request of one of the set
    request_within : (u : List ℕ) → set u ≡ true → (request : Request) → All P (texts_of setup w u request) → All P (texts_of setup v u request)
    request_within u h (AddDerivation text) all = subst (λ (d : Desk). All P (derivation_texts d text)) (agree.desks u h) all
    request_within u h (Offer derivation tree) all = subst (λ (d : Desk). All P (offer_texts d derivation tree)) (agree.desks u h) all
    request_within u h (Closure class) all = subst (λ (s : Observation). All P (texts_for s class)) (observation_agree setup set w v agree u h) all
    request_within u h (Take class) all = subst (λ (s : Observation). All P (texts_for s class)) (observation_agree setup set w v agree u h) all
    request_within u h (Plan number) all = subst (λ (s : Observation). All P (plan_texts s number)) (observation_agree setup set w v agree u h) all
    request_within u h (Finish number bytes) all =
        let job : Job = record { leader = u; number = number } in
        let o : Option Tree = tree_of_archive bytes in
        where_any (leads_job job (goal_at number (v u).goals)) (job_texts setup w job o) (job_texts setup v job o) (job_within job o)
        (subst (λ (d : Desk). All P (if leads_job job (goal_at number d.goals) then job_texts setup w job o else [])) (agree.desks u h) all)
    request_within u h request all = all

    event_within : (e : Event) → set e.actor ≡ true → All P (texts_of_event setup w e) → All P (texts_of_event setup v e)
    event_within e h all =
        where_any (is_user setup e.actor) (texts_of setup w e.actor e.request) (texts_of setup v e.actor e.request) (request_within e.actor h e.request) all

  -- and those of a run
  run_within : (setup : Setup) (set : List ℕ → Bool) (events : List Event) (w v : World)
      → ((x y : List ℕ) → set x ≡ true → list_any (gives_trust setup x y) events ≡ true → set y ≡ true) → Agree set w v → AreIdle set v
      → All P (hashed setup w events) → All P (hashed setup v (filter (λ e. set e.actor) events))
  unfolding hashed
  run_within setup set [] w v gives agree idle all = all
  run_within setup set (e ∷ events) w v gives agree idle all =
      let first : IsInward setup set e = λ x y s g. gives x y s (or_left _ _ g) in
      let others : (x y : List ℕ) → set x ≡ true → list_any (gives_trust setup x y) events ≡ true → set y ≡ true = λ x y s g. gives x y s (or_right _ _ g) in
      let own : List (List ℕ) = texts_of_event setup w e in
      let rest : List (List ℕ) = hashed setup (after setup w e) events in
      let later : All P rest = all_back P own rest all in
      elim (either (set e.actor)) [
        | inl s ↦
            rw s
            (All-append P (texts_of_event setup v e) (hashed setup (after setup v e) (filter (λ f. set f.actor) events))
            (event_within setup set w v agree idle e s (all_front P own rest all))
            (run_within setup set events (after setup w e) (after setup v e) others (after_agree setup set w v agree e first s)
            (stay_idle setup set v e s idle) later))
        | inr f ↦ rw f (run_within setup set events (after setup w e) v others (after_stranger setup set w v agree e f) idle later)
      ]

pub hashes_no_more : StrikingHashesNoMore
hashes_no_more setup events u =
    let set : List ℕ → Bool = ever setup events u in
    let law = leads-IsLeastSet (λ x y. list_any (gives_trust setup x y) events) setup.users u in
    let all : List (List ℕ) = hashed setup nothing events in
    run_within (Contains all) setup set events nothing nothing (λ x y s g. law.closed x y (gives_user setup x y events g) s g)
    (record { desks = λ x s. refl; closed = λ x y s t. cc; goals = λ x s. All-nil (Under set) }) (λ x outside. refl) (All-contains_itself all)
