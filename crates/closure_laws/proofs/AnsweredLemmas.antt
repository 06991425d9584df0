-- What is known of an event by its reply: a closure that is given is that of a user, and a goal that is planned was resolved.
use Rattle.std.proofs.Common.{◌≡◌, ℕ, Bool, true, false, inl, inr, refl, sym, ◌∙◌, ap, subst, List, [], ◌∷◌, ◌++◌, Option, Some, None, Result, Ok, Err}
use Rattle.std.specs.Prelude.{All, Contains, codes, nat_le, length, unwrap_or, if◌then◌else◌}
use Rattle.std.specs.List.{list_all}
use Rattle.std.proofs.lemmas.List.Elements.{All-nil, All-cons, All-head, All-tail}
use Rattle.sha2.specs.Sha256.{sha256}
use Rattle.model.specs.declared.refusal.Refusal.{Refusal}
use Rattle.model.specs.declared.refusal.Refusal.TheVariants.{UnknownUser, UnknownDerivation, UnknownGoal, WrongState, NotRealised}
use Rattle.model.specs.Paths.{OutputClass, is_name}
use Rattle.model.specs.Derivations.{Derivation, is_key, variable_keys, value_of, is_derivation_name, is_there, has_sound_environment, ascend, name_of}
use Rattle.model.specs.Classes.{Admission, known_at, admission_of, masked_text}
use Rattle.model.specs.Worlds.{Setup, is_user, World, Entry, Resolved, Planned, Failed, Goal, Desk, known_of}
use Rattle.model.specs.Results.{then_do}
use Rattle.model.specs.ClosureRequests.{closure_for}
use Rattle.model.specs.Goals.{goal_at, with_goal, as_seen, is_waiting}
use Rattle.model.specs.Resolutions.{resolving_texts}
use Rattle.model.specs.GoalRequests.{resolve_for, plan_resolved, plan_goal, known_texts, goal_texts, plan_texts}
use Rattle.model.specs.GoalRequests as requests
use Rattle.model.specs.Events.{Closure, Plan, Event, Request}
use Rattle.model.specs.Replies as replies
use Rattle.model.specs.Replies.{Refused}
use Rattle.model.specs.Outcomes.{Observation, observation_of, Outcome, becomes, check, reply_of}
use Rattle.model.specs.Steps.{outcome, outcome_of, reply_to}
use Rattle.model.specs.HashedTexts.{texts_of, texts_of_event}
use Rattle.model.proofs.BoolLemmas.{either, both_parts}
use Rattle.aterm.proofs.Exact.{has_text}
use Rattle.aterm.proofs.Tests.{derivation_from_test}
use Rattle.laws.proofs.OutcomeLemmas.{checked, needed}
use Rattle.laws.proofs.GoalRequestLemmas.{planned_goal}
use Rattle.laws.proofs.KnowledgeLemmas.{Admits}
use Rattle.laws.proofs.RecursionLemmas.{admit_parts}
use Rattle.closure_laws.proofs.OutputLemmas.{path_of}
use Rattle.closure_laws.proofs.RequestLemmas.{IsSoundAdmission}

pub all_front : {X : Type 0} (P : X → Type 0) (xs ys : List X) → All P (xs ++ ys) → All P xs
all_front P [] ys all = All-nil P
all_front P (x ∷ xs) ys all = All-cons P x xs (All-head P x (xs ++ ys) all) (all_front P xs ys (All-tail P x (xs ++ ys) all))

pub all_behind : {X : Type 0} (P : X → Type 0) (xs ys : List X) → All P (xs ++ ys) → All P ys
all_behind P [] ys all = all
all_behind P (x ∷ xs) ys all = all_behind P xs ys (All-tail P x (xs ++ ys) all)

-- ---- derivations

there_name : (o : Option (List ℕ)) → is_there is_derivation_name o ≡ true → is_name (unwrap_or o []) ≡ true
there_name None h = absurd (cc)
there_name (Some name) h = (both_parts (is_name name) (nat_le (length name) 207) h).0

-- the name of a derivation of the store
sound_name : (d : Derivation) → has_sound_environment d.environment ≡ true → is_name (name_of d) ≡ true
sound_name d h =
    let first = both_parts (list_all (λ (v : List ℕ × List ℕ). is_key v.0) d.environment) _ h in
    let second = both_parts (ascend [] (variable_keys d.environment)) _ first.1 in
    let third = both_parts (is_there is_derivation_name (value_of (codes "name") d.environment)) _ second.1 in
    there_name (value_of (codes "name") d.environment) third.0

-- what is admitted has a name, and the path of its class
pub admitted_sound : (r : Request) (old later : Desk) (admits : Admits r old later) → IsSoundAdmission admits.admission
admitted_sound r old later admits =
    let d : Derivation = admits.derivation in
    let name : is_name (name_of d) ≡ true = sound_name d (derivation_from_test d (has_text admits.text d admits.read).0).environment in
    let own : IsSoundAdmission (admission_of (known_of old) d) = record { name = name; class = path_of OutputClass (sha256 (masked_text (known_of old) d)) (name_of d) name } in
    subst IsSoundAdmission (admit_parts (known_of old) d admits.admission admits.admitted).1 own

-- ---- what comes of an event

-- what comes of the request of a user of the run, and what anyone else is told
pub asked_outcome : (setup : Setup) (w : World) (e : Event) (request : Request) → is_user setup e.actor ≡ true → e.request ≡ request
    → outcome_of setup w e ≡ outcome setup (observation_of setup w e.actor) request
asked_outcome setup w e request user asked =
    ap (λ (b : Bool). check UnknownUser b (outcome setup (observation_of setup w e.actor) e.request)) user ∙ ap (outcome setup (observation_of setup w e.actor)) asked

pub no_outcome : (setup : Setup) (w : World) (e : Event) → is_user setup e.actor ≡ false → outcome_of setup w e ≡ Err UnknownUser
no_outcome setup w e none = ap (λ (b : Bool). check UnknownUser b (outcome setup (observation_of setup w e.actor) e.request)) none

-- what the event of a user of the run hashes
pub asked_texts : (texts : List (List ℕ)) (setup : Setup) (w : World) (e : Event) (request : Request) → is_user setup e.actor ≡ true → e.request ≡ request
    → All (Contains texts) (texts_of_event setup w e) → All (Contains texts) (texts_of setup w e.actor request)
asked_texts texts setup w e request user asked inside =
    subst (λ (q : Request). All (Contains texts) (texts_of setup w e.actor q)) asked
    (subst (λ (b : Bool). All (Contains texts) (if b then texts_of setup w e.actor e.request else [])) user inside)

-- ---- a goal that is planned

-- a goal that was planned, and what it was resolved to
pub record IsPlanned (s : Observation) (n : ℕ) (o : Outcome) : Type 0 where
  pub goal : Goal
  pub admission : Admission
  pub resolved : Resolved
  pub there : goal_at n s.desk.goals ≡ Some goal
  pub waits : is_waiting (as_seen s.reach goal.status) ≡ true
  pub known : known_at (known_of s.desk) goal.derivation ≡ Some admission
  pub is : resolve_for s admission.derivation ≡ Ok resolved
  pub outcome_is : o ≡ becomes (with_goal n (planned_goal goal resolved) s.desk) (replies.Status Planned)

abbrev TellsPlanned : Observation → ℕ → Outcome → Type 0
TellsPlanned s n o = reply_of o ≡ replies.Status Planned → IsPlanned s n o

-- neither a refusal nor a goal that failed is planned
refused_not_planned : (why : Refusal) → Refused why ≡ replies.Status Planned → ⊥
refused_not_planned why e = cc

failed_not_planned : (why : Refusal) → replies.Status (Failed why) ≡ replies.Status Planned → ⊥
failed_not_planned why e = cc

module _ (s : Observation) (n : ℕ) (g : Goal) (a : Admission) (there : goal_at n s.desk.goals ≡ Some g) (waits : is_waiting (as_seen s.reach g.status) ≡ true)
    (known : known_at (known_of s.desk) g.derivation ≡ Some a) where
  resolved_so : (o : Result Resolved Refusal) → resolve_for s a.derivation ≡ o → TellsPlanned s n (plan_resolved s n g o)
  resolved_so (Ok r) is told = record { goal = g; admission = a; resolved = r; there = there; waits = waits; known = known; is = is; outcome_is = refl }
  resolved_so (Err NotRealised) is told = absurd (refused_not_planned NotRealised told)
  resolved_so (Err why) is told = absurd (failed_not_planned why told)

-- a goal that is planned after it was asked for was resolved
pub planned_so : (s : Observation) (n : ℕ) → TellsPlanned s n (requests.plan s n)
planned_so s n =
    let P : Outcome → Type 0 = TellsPlanned s n in
    needed P UnknownGoal (goal_at n s.desk.goals) (λ g. check WrongState (is_waiting (as_seen s.reach g.status)) (plan_goal s n g))
    (λ g there. checked P WrongState (is_waiting (as_seen s.reach g.status)) (plan_goal s n g)
    (λ waits. needed P UnknownDerivation (known_at (known_of s.desk) g.derivation) (λ a. plan_resolved s n g (resolve_for s a.derivation))
    (λ a known. resolved_so s n g a there waits known (resolve_for s a.derivation) refl) (λ none told. absurd (refused_not_planned UnknownDerivation told)))
    (λ begun told. absurd (refused_not_planned WrongState told)))
    (λ none told. absurd (refused_not_planned UnknownGoal told))

-- a goal of a user of the run is planned
pub goal_planned : (setup : Setup) (w : World) (e : Event) (n : ℕ) → e.request ≡ Plan n → reply_to setup w e ≡ replies.Status Planned
    → (is_user setup e.actor ≡ true) × IsPlanned (observation_of setup w e.actor) n (outcome_of setup w e)
unfolding outcome
goal_planned setup w e n asked told = elim (either (is_user setup e.actor)) [
  | inl t ↦
      let o : outcome_of setup w e ≡ requests.plan (observation_of setup w e.actor) n = asked_outcome setup w e (Plan n) t asked in
      (t, subst (IsPlanned (observation_of setup w e.actor) n) (sym o) (planned_so (observation_of setup w e.actor) n (sym (ap reply_of o) ∙ told)))
  | inr f ↦ absurd (refused_not_planned UnknownUser (sym (ap reply_of (no_outcome setup w e f)) ∙ told))
]

-- what planning a goal that waits hashes
pub goal_hashes : (texts : List (List ℕ)) (s : Observation) (n : ℕ) (g : Goal) (a : Admission) → goal_at n s.desk.goals ≡ Some g
    → is_waiting (as_seen s.reach g.status) ≡ true → known_at (known_of s.desk) g.derivation ≡ Some a → All (Contains texts) (plan_texts s n)
    → All (Contains texts) (resolving_texts s.view s.desk.pins (known_of s.desk) a.derivation)
goal_hashes texts s n g a there waits known inside =
    subst (λ (o : Option Admission). All (Contains texts) (known_texts s o)) known
    (subst (λ (b : Bool). All (Contains texts) (if b then known_texts s (known_at (known_of s.desk) g.derivation) else [])) waits
    (subst (λ (o : Option Goal). All (Contains texts) (goal_texts s o)) there inside))

-- ---- a closure that is given

replied : (d : Desk) (o : Result (List Entry) Refusal) (entries : List Entry)
    → reply_of (then_do o (λ given. becomes d (replies.Closure given))) ≡ replies.Closure entries
    → o ≡ Ok entries
replied d (Ok given) entries h = cc
replied d (Err why) entries h = cc

-- no refusal is a closure
not_entries : (why : Refusal) (entries : List Entry) → Refused why ≡ replies.Closure entries → ⊥
not_entries why entries e = cc

-- where a closure is given, it is that of a user of the run
pub entries_given : (setup : Setup) (w : World) (e : Event) (class : List ℕ) (entries : List Entry) → e.request ≡ Closure class
    → reply_to setup w e ≡ replies.Closure entries
    → (is_user setup e.actor ≡ true) × (closure_for (observation_of setup w e.actor) class ≡ Ok entries)
unfolding outcome
entries_given setup w e class entries asked told = elim (either (is_user setup e.actor)) [
  | inl t ↦ (
    t,
    replied (w e.actor) (closure_for (observation_of setup w e.actor) class) entries
        (sym (ap reply_of (asked_outcome setup w e (Closure class) t asked)) ∙ told),
  )
  | inr f ↦ absurd (not_entries UnknownUser entries (sym (ap reply_of (no_outcome setup w e f)) ∙ told))
]
