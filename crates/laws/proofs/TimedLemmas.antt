-- A user's replies are those of the run without the events of those who are not near when they happen.
use Rattle.std.proofs.Common.{◌≡◌, ℕ, suc, Bool, true, false, inl, inr, refl, sym, ◌∙◌, ap, subst, List, [], ◌∷◌, ◌++◌, map, Option, Some, None, Ok, Err}
use Rattle.std.specs.Prelude.{◌||◌, ◌&&◌, if◌then◌else◌, bytes_eq, filter}
use Rattle.std.specs.List.{list_any}
use Rattle.std.proofs.lemmas.Bool.{or_left, or_right, and_from}
use Rattle.std.proofs.lemmas.Simd.{map-map}
use Rattle.model.specs.declared.refusal.Refusal.TheVariants.{UnknownUser}
use Rattle.model.specs.Reach.{leads_by, leads, is_among}
use Rattle.model.specs.Worlds.{Setup, is_user, Resolved, Job, Status, Goal, Desk, World, nothing}
use Rattle.model.specs.Goals.{same_job, running_in, led_by}
use Rattle.model.specs.Events.{Event}
use Rattle.model.specs.Outcomes.{trusts, reaches, view_of, joins, running_for, Observation, observation_of, Notification, NoNotification, Ended, Outcome, check, delivered, reply_of, desk_after}
use Rattle.model.specs.Steps.{outcome, outcome_of, reply_to, after, world_after, answers, replies_to}
use Rattle.model.specs.Timed.{reached_from, near, kept_from, status_in, goal_in, desk_in, AgreesOn}
use Rattle.model.specs.Laws.{IsTimed}
use Rattle.model.proofs.BoolLemmas.{either, or_cases, both_parts, same_bytes, bytes_same, bytes_eq_sym}
use Rattle.model.proofs.ReachLemmas.{leads_link, leads_least, leads-IsLeastSet}
use Rattle.laws.proofs.GoalLemmas.{keeps_delivered}
use Rattle.laws.proofs.AgreeLemmas.{and_agree, map_agree, flat_map_agree, observation_sound}
use Rattle.laws.proofs.StrikeLemmas.{told}
use Rattle.laws.proofs.InJobsLemmas.{in_job, unless_ended, delivered_in, delivered_apart}
use Rattle.laws.proofs.InJobsOutcomes.{observation_in, outcome_in, Covers, requested_in}

-- ---- who is near

pub any_of : (test : List ℕ → Bool) (x : List ℕ) (xs : List (List ℕ)) → is_among x xs ≡ true → test x ≡ true → list_any test xs ≡ true
any_of test x [] inside h = cc
any_of test x (y ∷ ys) inside h = elim (or_cases (bytes_eq y x) (is_among x ys) inside) [
  | inl is ↦ or_left (test y) (list_any test ys) (subst (λ z. test z ≡ true) (sym (same_bytes y x is)) h)
  | inr rest ↦ or_right (test y) (list_any test ys) (any_of test x ys rest h)
]

pub some_of : (test : List ℕ → Bool) (xs : List (List ℕ)) → list_any test xs ≡ true → (x : List ℕ) × (is_among x xs ≡ true) × (test x ≡ true)
some_of test [] h = absurd (cc)
some_of test (y ∷ ys) h = elim (or_cases (test y) (list_any test ys) h) [
  | inl first ↦ (y, or_left (bytes_eq y y) (is_among y ys) (bytes_same y), first)
  | inr rest ↦ let s = some_of test ys rest in (s.0, or_right (bytes_eq y s.0) (is_among s.0 ys) s.1, s.2)
]

-- only users of the run trust
abbrev pub IsOfUsers : Setup → World → Type 0
IsOfUsers setup w = (x y : List ℕ) → trusts w x y ≡ true → is_user setup x ≡ true

-- a set of users that is closed under trust
abbrev pub IsClosed : (List ℕ → Bool) → World → Type 0
IsClosed set w = (x y : List ℕ) → set x ≡ true → trusts w x y ≡ true → set y ≡ true

pub from_closed : (setup : Setup) (w : World) → IsOfUsers setup w → (set : List ℕ → Bool) → IsClosed (reached_from setup w set) w
from_closed setup w known set x y h t =
    let user : is_user setup x ≡ true = known x y t in
    elim (or_cases (set x) (list_any (λ z. set z && reaches setup w z x) setup.users) h) [
      | inl own ↦
          or_right (set y) _ (any_of (λ z. set z && reaches setup w z y) x setup.users user (and_from (set x) (reaches setup w x y) own (leads_link (trusts w) setup.users x y t)))
      | inr others ↦
          let s = some_of (λ z. set z && reaches setup w z x) setup.users others in
          let parts = both_parts (set s.0) (reaches setup w s.0 x) s.2 in
          let on : reaches setup w s.0 y ≡ true = (leads-IsLeastSet (trusts w) setup.users s.0).closed x y user parts.1 t in
          or_right (set y) _ (any_of (λ z. set z && reaches setup w z y) s.0 setup.users s.1 (and_from (set s.0) (reaches setup w s.0 y) parts.0 on))
    ]

near_closed : (setup : Setup) (u : List ℕ) (w : World) (events : List Event) → IsOfUsers setup w → IsClosed (near setup u w events) w
unfolding near
near_closed setup u w [] known x y h t = (leads-IsLeastSet (trusts w) setup.users u).closed x y (known x y t) h t
near_closed setup u w (e ∷ events) known x y h t = from_closed setup w known (near setup u (after setup w e) events) x y h t

near_self : (setup : Setup) (u : List ℕ) (w : World) (events : List Event) → near setup u w events u ≡ true
unfolding near
near_self setup u w [] = (leads-IsLeastSet (trusts w) setup.users u).holds
near_self setup u w (e ∷ events) = or_left (near setup u (after setup w e) events u) _ (near_self setup u (after setup w e) events)

near_before : (setup : Setup) (u : List ℕ) (w : World) (e : Event) (events : List Event) (x : List ℕ)
    → near setup u (after setup w e) events x ≡ true → near setup u w (e ∷ events) x ≡ true
unfolding near
near_before setup u w e events x h = or_left (near setup u (after setup w e) events x) _ h

-- ---- who trusts after an event

others_trust : (setup : Setup) (actor : List ℕ) (o : Outcome) (x : List ℕ) (reached : Bool) (d : Desk) (y : List ℕ) → bytes_eq x actor ≡ false
    → (desk_after setup actor o x reached d).trusted y ≡ d.trusted y
others_trust setup actor (Err why) x reached d y f = refl
others_trust setup actor (Ok c) x reached d y f =
    ap (λ (trusts : List ℕ → Bool). trusts y) (keeps_delivered setup actor reached c.notification (if bytes_eq x actor then c.desk else d)).trusted ∙ rw f refl

pub users_after : (setup : Setup) (w : World) (e : Event) → IsOfUsers setup w → IsOfUsers setup (after setup w e)
users_after setup w e known x y t = elim (either (is_user setup e.actor)) [
  | inl user ↦ elim (either (bytes_eq x e.actor)) [
    | inl is ↦ subst (λ z. is_user setup z ≡ true) (sym (same_bytes x e.actor is)) user
    | inr f ↦ known x y (sym (others_trust setup e.actor (outcome_of setup w e) x (reaches setup w x e.actor) (w x) y f) ∙ t)
  ]
  | inr stranger ↦ known x y (sym (refused (is_user setup e.actor) stranger) ∙ t)
]
  where
    refused : (b : Bool) → b ≡ false
        → (desk_after setup e.actor (check UnknownUser b (outcome setup (observation_of setup w e.actor) e.request)) x (reaches setup w x e.actor) (w x)).trusted y ≡ (w x).trusted y
    refused b f = rw f refl

-- ---- worlds that agree

module _ (setup : Setup) (set : List ℕ → Bool) (w v : World) (agree : AgreesOn set w v) (closed : IsClosed set w) where
  leads_same : (ks : List (List ℕ)) (x y : List ℕ) → set x ≡ true → leads (trusts w) ks x y ≡ leads (trusts v) ks x y
  unfolding leads_by
  leads_same [] x y h = ap (λ (d : Desk). bytes_eq x y || d.trusted y) (agree.desks x h)
  leads_same (k ∷ ks) x y h =
      rw (← leads_same ks x y h)
      (ap (λ b. leads (trusts w) ks x y || b)
      (and_agree _ _ _ _ (leads_same ks x k h) (λ t. leads_same ks k y (leads_least (trusts w) set closed ks x k h t))))

  -- the jobs that a user of the set leads
  led_one : (u : List ℕ) → set u ≡ true → (n : ℕ) (s : Status) (r : Option Resolved)
      → running_in (record { leader = u; number = n }) (status_in agree.jobs s) r ≡ running_in (record { leader = u; number = n }) s r
  led_one u h n s None = refl
  led_one u h n s (Some r) =
      let job : Job = record { leader = u; number = n } in
      let stays : (other : Job) → same_job other job ≡ true → agree.jobs other ≡ true = λ other same.
      agree.inside other (subst (λ z. set z ≡ true) (sym (same_bytes other.leader u (both_parts _ _ same).0)) h) in
      rw (in_job agree.jobs job stays s) refl

  led_same : (u : List ℕ) → set u ≡ true → (n : ℕ) (goals : List Goal) → led_by u n (map (goal_in agree.jobs) goals) ≡ led_by u n goals
  unfolding led_by
  led_same u h n [] = refl
  led_same u h n (g ∷ goals) = rw (led_one u h n g.status g.resolved, led_same u h (suc n) goals) refl

  observation_same : (u : List ℕ) → set u ≡ true → observation_of setup w u ≡ observation_in agree.jobs (observation_of setup v u)
  observation_same u h =
      let same : (x : List ℕ) → reaches setup w u x ≡ reaches setup v u x = λ x. leads_same setup.users u x h in
      let inside : (x : List ℕ) → reaches setup w u x ≡ true → set x ≡ true = λ x t. leads_least (trusts w) set closed setup.users u x h t in
      let joined : (x : List ℕ) → joins setup w u x ≡ joins setup v u x = λ x.
      and_agree _ _ _ _ (same x) (λ t. leads_same setup.users x u (inside x t)) in
      let seen : view_of setup w u ≡ map (desk_in agree.jobs) (view_of setup v u) =
      map_agree (reaches setup w u) (reaches setup v u) same w (λ x. desk_in agree.jobs (v x)) (λ x t. agree.desks x (inside x t)) setup.users
      ∙ sym (map-map (desk_in agree.jobs) v (filter (reaches setup v u) setup.users)) in
      let running : running_for setup w u ≡ running_for setup v u =
      flat_map_agree (joins setup w u) (joins setup v u) joined (λ x. led_by x 1 (w x).goals) (λ x. led_by x 1 (v x).goals)
      (λ x t.
      let near : set x ≡ true = inside x (both_parts (reaches setup w u x) (reaches setup w x u) t).0 in
      ap (λ (d : Desk). led_by x 1 d.goals) (agree.desks x near) ∙ led_same x near 1 (v x).goals) setup.users in
      λ i. record { user = u; desk = (agree.desks u h) i; reach = λ x. (same x) i; view = seen i; running = running i }

  outcome_same : (e : Event) → set e.actor ≡ true → outcome_of setup w e ≡ outcome_in agree.jobs (outcome_of setup v e)
  outcome_same e h =
      let s : Observation = observation_of setup v e.actor in
      let covers : Covers agree.jobs s.reach = λ job t.
      agree.inside job (leads_least (trusts w) set closed setup.users e.actor job.leader h (leads_same setup.users e.actor job.leader h ∙ t)) in
      ap (λ z. check UnknownUser (is_user setup e.actor) (outcome setup z e.request)) (observation_same e.actor h)
      ∙ of (is_user setup e.actor) _ _ (requested_in agree.jobs setup s (observation_sound setup v e.actor) covers e.request)
    where
      of : (b : Bool) (o p : Outcome) → o ≡ outcome_in agree.jobs p → check UnknownUser b o ≡ outcome_in agree.jobs (check UnknownUser b p)
      of true o p is = is
      of false o p is = refl

  reply_same : (e : Event) → set e.actor ≡ true → reply_to setup w e ≡ reply_to setup v e
  reply_same e h = ap reply_of (outcome_same e h) ∙ replied (outcome_of setup v e)
    where
      replied : (o : Outcome) → reply_of (outcome_in agree.jobs o) ≡ reply_of o
      replied (Err why) = refl
      replied (Ok c) = refl

-- the desk of a user after an outcome
desk_same : (setup : Setup) (jobs : Job → Bool) (actor : List ℕ) → ((job : Job) → job.leader ≡ actor → jobs job ≡ true)
    → (o : Outcome) (x : List ℕ) (reached : Bool) (d : Desk)
    → desk_after setup actor (outcome_in jobs o) x reached (desk_in jobs d) ≡ desk_in jobs (desk_after setup actor o x reached d)
desk_same setup jobs actor inside (Err why) x reached d = refl
desk_same setup jobs actor inside (Ok c) x reached d =
    ap (delivered setup actor reached c.notification) (of (bytes_eq x actor)) ∙ delivered_in setup jobs actor reached c.notification (if bytes_eq x actor then c.desk else d) inside
  where
    of : (b : Bool) → (if b then desk_in jobs c.desk else desk_in jobs d) ≡ desk_in jobs (if b then c.desk else d)
    of true = refl
    of false = refl

-- ---- one event

-- no member of a set is one who is outside
apart_from : (set : List ℕ → Bool) (x y : List ℕ) → set x ≡ true → set y ≡ false → bytes_eq x y ≡ false
apart_from set x y h f = elim (either (bytes_eq x y)) [
  | inl is ↦ let inside : set y ≡ true = subst (λ z. set z ≡ true) (same_bytes x y is) h in absurd (cc)
  | inr apart ↦ apart
]

module _ (setup : Setup) (u : List ℕ) (w v : World) (e : Event) (events : List Event) (known : IsOfUsers setup w) (agree : AgreesOn (near setup u w (e ∷ events)) w v) where
  abbrev then_near : List ℕ → Bool
  then_near = near setup u (after setup w e) events

  closed : IsClosed (near setup u w (e ∷ events)) w
  closed = near_closed setup u w (e ∷ events) known

  -- of one who is near when it has happened
  pub after_kept : then_near e.actor ≡ true → AgreesOn then_near (after setup w e) (after setup v e)
  after_kept h =
      let near_now : (x : List ℕ) → then_near x ≡ true → near setup u w (e ∷ events) x ≡ true = near_before setup u w e events in
      let own : (job : Job) → job.leader ≡ e.actor → agree.jobs job ≡ true = λ job is. agree.inside job (near_now job.leader (subst (λ z. then_near z ≡ true) (sym is) h)) in
      record {
        jobs = agree.jobs;
        inside = λ job s. agree.inside job (near_now job.leader s);
        desks = λ x s.
            let o = outcome_same setup _ w v agree closed e (near_now e.actor h) in
            let r : reaches setup w x e.actor ≡ reaches setup v x e.actor = leads_same setup _ w v agree closed setup.users x e.actor (near_now x s) in
            (λ i. desk_after setup e.actor (o i) x (r i) ((agree.desks x (near_now x s)) i))
            ∙ desk_same setup agree.jobs e.actor own (outcome_of setup v e) x (reaches setup v x e.actor) (v x);
      }

  pub reply_kept : then_near e.actor ≡ true → reply_to setup w e ≡ reply_to setup v e
  reply_kept h = reply_same setup _ w v agree closed e (near_before setup u w e events e.actor h)

  -- one who is not near is reached by none who is
  unreached : then_near e.actor ≡ false → (x : List ℕ) → then_near x ≡ true → reaches setup w x e.actor ≡ false
  unreached f x h =
      let stays : IsClosed then_near w = λ y z s t.
      near_closed setup u (after setup w e) events (users_after setup w e known) y z s
      (others_trust setup e.actor (outcome_of setup w e) y (reaches setup w y e.actor) (w y) z (apart_from then_near y e.actor s f) ∙ t) in
      elim (either (reaches setup w x e.actor)) [
        | inl t ↦ let inside : then_near e.actor ≡ true = leads_least (trusts w) then_near stays setup.users x e.actor h t in absurd (cc)
        | inr apart ↦ apart
      ]

  -- of another
  pub after_struck : then_near e.actor ≡ false → AgreesOn then_near (after setup w e) v
  after_struck f = by_outcome (outcome_of setup w e) refl
    where
      near_now : (x : List ℕ) → then_near x ≡ true → near setup u w (e ∷ events) x ≡ true
      near_now = near_before setup u w e events

      by_outcome : (o : Outcome) → outcome_of setup w e ≡ o → AgreesOn then_near (after setup w e) v
      by_outcome (Err why) is = record {
        jobs = agree.jobs;
        inside = λ job s. agree.inside job (near_now job.leader s);
        desks = λ x s. ap (λ o. desk_after setup e.actor o x (reaches setup w x e.actor) (w x)) is ∙ agree.desks x (near_now x s);
      }
      by_outcome (Ok c) is = record {
        jobs = unless_ended e.actor c.notification agree.jobs;
        inside = λ job s. stays c.notification job s;
        desks = λ x s.
            ap (λ o. desk_after setup e.actor o x (reaches setup w x e.actor) (w x)) is
            ∙ rw (apart_from then_near x e.actor s f, unreached f x s)
            (ap (delivered setup e.actor false c.notification) (agree.desks x (near_now x s)) ∙ delivered_apart setup agree.jobs e.actor c.notification (v x));
      }
        where
          stays : (notification : Notification) (job : Job) → then_near job.leader ≡ true → unless_ended e.actor notification agree.jobs job ≡ true
          stays NoNotification job s = agree.inside job (near_now job.leader s)
          stays (Ended n end) job s = rw (agree.inside job (near_now job.leader s), apart_from then_near job.leader e.actor s f) refl

-- ---- runs

answers_near : (setup : Setup) (u : List ℕ) (events : List Event) (w v : World) → IsOfUsers setup w → AgreesOn (near setup u w events) w v
    → replies_to u (answers setup w events) ≡ replies_to u (answers setup v (kept_from setup u w events))
unfolding answers replies_to kept_from
answers_near setup u [] w v known agree = refl
answers_near setup u (e ∷ events) w v known agree =
    let next : World = after setup w e in
    let users : IsOfUsers setup next = users_after setup w e known in
    elim (either (near setup u next events e.actor)) [
      | inl t ↦
          rw t (told (bytes_eq e.actor u) _ _ _ _ (reply_kept setup u w v e events known agree t)
          (answers_near setup u events next (after setup v e) users (after_kept setup u w v e events known agree t)))
      | inr f ↦
          let rest = answers_near setup u events next v users (after_struck setup u w v e events known agree f) in
          let other : bytes_eq e.actor u ≡ false = bytes_eq_sym e.actor u ∙ apart_from (near setup u next events) u e.actor (near_self setup u next events) f in
          rw (other, f) rest
    ]

-- what is kept of the first events, and the worlds then
record Splits (setup : Setup) (u : List ℕ) (first later : List Event) (w v : World) : Type 0 where
  kept : List Event
  cut : kept_from setup u w (first ++ later) ≡ kept ++ kept_from setup u (world_after setup w first) later
  agrees : AgreesOn (near setup u (world_after setup w first) later) (world_after setup w first) (world_after setup v kept)

splits : (setup : Setup) (u : List ℕ) (first later : List Event) (w v : World) → IsOfUsers setup w → AgreesOn (near setup u w (first ++ later)) w v
    → Splits setup u first later w v
unfolding world_after kept_from
splits setup u [] later w v known agree = record { kept = []; cut = refl; agrees = agree }
splits setup u (e ∷ first) later w v known agree =
    let next : World = after setup w e in
    let users : IsOfUsers setup next = users_after setup w e known in
    elim (either (near setup u next (first ++ later) e.actor)) [
      | inl t ↦
          let rest : Splits setup u first later next (after setup v e) = splits setup u first later next (after setup v e) users (after_kept setup u w v e (first ++ later) known agree t) in
          record { kept = e ∷ rest.kept; cut = rw t (ap (λ es. e ∷ es) rest.cut); agrees = rest.agrees }
      | inr f ↦
          let rest : Splits setup u first later next v = splits setup u first later next v users (after_struck setup u w v e (first ++ later) known agree f) in
          record { kept = rest.kept; cut = rw f rest.cut; agrees = rest.agrees }
    ]

-- at first all desks are empty
at_first : (set : List ℕ → Bool) → AgreesOn set nothing nothing
at_first set = record { jobs = λ job. true; inside = λ job s. refl; desks = λ x s. refl }

pub no_trust : (setup : Setup) → IsOfUsers setup nothing
no_trust setup x y t = cc

pub timed : (setup : Setup) (u : List ℕ) → IsTimed setup u
timed setup u = record {
  replies = λ events. answers_near setup u events nothing nothing (no_trust setup) (at_first (near setup u nothing events));
  desks = λ first later.
      let s : Splits setup u first later nothing nothing = splits setup u first later nothing nothing (no_trust setup) (at_first (near setup u nothing (first ++ later))) in
      record { kept = s.kept; cut = s.cut; agrees = s.agrees };
}
