-- Each text that is hashed names a value of its event.
use Rattle.std.proofs.Common.{◌≡◌, ℕ, true, inl, inr, refl, sym, ◌∙◌, ap, subst, List, Option, Some, None, Ok}
use Rattle.std.specs.Prelude.{bytes_eq, if◌then◌else◌}
use Rattle.model.specs.declared.refusal.Refusal.TheVariants.{UnknownGoal, WrongState}
use Rattle.model.specs.Worlds.{Setup, World, Job, Goal, Desk, is_user}
use Rattle.model.specs.Goals.{goal_at, is_in, members}
use Rattle.model.specs.Endings.{Output, ended_goals}
use Rattle.model.specs.Events.{Request, AddSource, AddDerivation, Offer, Closure, Take, Plan, Finish, Event}
use Rattle.model.specs.Replies.{Reply}
use Rattle.model.specs.Outcomes.{reaches, Observation, observation_of, Outcome, Ended as Notified, becomes, check, need, reply_of, delivered, desk_after}
use Rattle.model.specs.Steps.{reply_to, outcome, outcome_of, after}
use Rattle.model.specs.EndRequests.{leads_job, finish}
use Rattle.model.specs.HashedTexts.{texts_of}
use Rattle.model.specs.HashedValues.{IsGivenBy, Says, IsOutputPath, IsValueOf, Given, Ended, NotGiven, EachTextNamesAValue}
use Rattle.model.proofs.BoolLemmas.{either, same_bytes, bytes_same}
use Rattle.laws.proofs.EndRequestLemmas.{ended_job}
use Rattle.laws.proofs.HashedForLemmas.{AreHashedFor, for_values, for_none, IsAnswered, source_values, derivation_values, offer_values}
use Rattle.laws.proofs.HashedRequestLemmas.{closure_for_values, take_values, plan_values}
use Rattle.laws.proofs.HashedEndLemmas.{job_values}

-- a job ends where its leader's goal is in it
leads_ended : (setup : Setup) (s : Observation) (n : ℕ) (bytes : List ℕ) → leads_job (record { leader = s.user; number = n }) (goal_at n s.desk.goals) ≡ true
    → finish setup s n bytes ≡ Ok (ended_job setup s n (Output bytes))
leads_ended setup s n bytes leads = by (goal_at n s.desk.goals) leads
  where
    job : Job
    job = record { leader = s.user; number = n }

    by : (o : Option Goal) → leads_job job o ≡ true
        → need UnknownGoal o (λ g. check WrongState (is_in job g.status) (Ok (ended_job setup s n (Output bytes)))) ≡ Ok (ended_job setup s n (Output bytes))
    by None h = absurd (cc)
    by (Some g) h = rw h refl

module _ (setup : Setup) (w : World) (e : Event) (user : is_user setup e.actor ≡ true) where
  abbrev s : Observation
  s = observation_of setup w e.actor

  abbrev V : List ℕ → Type 0
  V = IsValueOf setup w e

  outcome_is : (o : Outcome) → outcome setup s e.request ≡ o → outcome_of setup w e ≡ o
  outcome_is o is = rw user is

  -- the actor's desk where nothing is delivered
  own_desk : (d : Desk) (reply : Reply) → outcome_of setup w e ≡ becomes d reply → d ≡ after setup w e e.actor
  own_desk d reply is =
      let own : d ≡ desk_after setup e.actor (becomes d reply) e.actor (reaches setup w e.actor e.actor) (w e.actor) = rw (bytes_same e.actor) refl in
      own ∙ ap (λ o. desk_after setup e.actor o e.actor (reaches setup w e.actor e.actor) (w e.actor)) (sym is)

  answered : (o : Outcome) (path : List ℕ) → outcome_of setup w e ≡ o → IsAnswered s e.request o path → V path
  answered o path is h = elim h [
    | inl g ↦
        let there : outcome_of setup w e ≡ becomes g.0 g.1 = is ∙ g.2 in
        let told : IsGivenBy s e.request (reply_to setup w e) g.0 path = subst (λ r. IsGivenBy s e.request r g.0 path) (sym (ap reply_of there)) g.3 in
        Given (subst (λ d. IsGivenBy s e.request (reply_to setup w e) d path) (own_desk g.0 g.1 there) told)
    | inr n ↦ NotGiven n.0 (subst (λ q. Says (reply_of q) n.0) (sym is) n.1) n.2
  ]

  -- the desk of a user who reaches the leader of a job that ended
  desk_ended : (n : ℕ) (bytes x : List ℕ) → outcome_of setup w e ≡ Ok (ended_job setup s n (Output bytes)) → reaches setup w x e.actor ≡ true
      → after setup w e x ≡ ended_goals setup true (Output bytes) (members (record { leader = e.actor; number = n }) 1 (w x).goals) (w x)
  desk_ended n bytes x is reached =
      let same : (if bytes_eq x e.actor then w e.actor else w x) ≡ w x = elim (either (bytes_eq x e.actor)) [ inl t ↦ rw t (ap w (sym (same_bytes x e.actor t))) | inr f ↦ rw f refl ] in
      ap (λ o. desk_after setup e.actor o x (reaches setup w x e.actor) (w x)) is
      ∙ ap (λ d. delivered setup e.actor (reaches setup w x e.actor) (Notified n (Output bytes)) d) same
      ∙ ap (λ b. delivered setup e.actor b (Notified n (Output bytes)) (w x)) reached

  finish_values : (n : ℕ) (bytes : List ℕ) → e.request ≡ Finish n bytes → outcome setup s e.request ≡ finish setup s n bytes
      → AreHashedFor V (texts_of setup w e.actor (Finish n bytes))
  finish_values n bytes asked is =
      let job : Job = record { leader = e.actor; number = n } in
      elim (either (leads_job job (goal_at n (w e.actor).goals))) [
        | inr f ↦ rw f (for_none V)
        | inl t ↦
            let ends = outcome_is (Ok (ended_job setup s n (Output bytes))) (is ∙ leads_ended setup s n bytes t) in
            rw t
            (job_values V setup w job bytes
            (λ x path reached h. Ended n bytes x asked (subst (λ d. IsOutputPath job bytes (w x) d path) (sym (desk_ended n bytes x ends reached)) h)))
      ]

  answered_values : (r : Request) → e.request ≡ r → AreHashedFor (IsAnswered s r (outcome setup s r)) (texts_of setup w e.actor r)
      → AreHashedFor V (texts_of setup w e.actor r)
  answered_values r asked all =
      let is : outcome_of setup w e ≡ outcome setup s r = outcome_is (outcome setup s r) (ap (outcome setup s) asked) in
      for_values (IsAnswered s r (outcome setup s r)) V (texts_of setup w e.actor r)
      (λ path h. answered (outcome setup s r) path is (subst (λ q. IsAnswered s q (outcome setup s r) path) (sym asked) h)) all

  request_values : (r : Request) → e.request ≡ r → AreHashedFor V (texts_of setup w e.actor r)
  unfolding outcome
  request_values (AddSource name tree) asked = answered_values (AddSource name tree) asked (source_values setup s name tree)
  request_values (AddDerivation text) asked = answered_values (AddDerivation text) asked (derivation_values setup s text)
  request_values (Offer derivation tree) asked = answered_values (Offer derivation tree) asked (offer_values setup s derivation tree)
  request_values (Closure class) asked = answered_values (Closure class) asked (closure_for_values s class)
  request_values (Take class) asked = answered_values (Take class) asked (take_values setup s class)
  request_values (Plan number) asked = answered_values (Plan number) asked (plan_values s number)
  request_values (Finish number bytes) asked = finish_values number bytes asked (ap (outcome setup s) asked)
  request_values r asked = for_none V

pub each_text : EachTextNamesAValue
each_text setup w e = elim (either (is_user setup e.actor)) [
  | inl t ↦ rw t (request_values setup w e t e.request refl)
  | inr f ↦ rw f (for_none (IsValueOf setup w e))
]
