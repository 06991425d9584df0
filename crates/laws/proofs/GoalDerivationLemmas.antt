-- The derivation of a goal stays on its user's desk.
use Rattle.std.proofs.Common.{◌≡◌, ℕ, zero, suc, Bool, true, inl, inr, refl, sym, ◌∙◌, ap, subst, List, [], ◌∷◌, Option, Some, None, Result, Ok, Err, is_some}
use Rattle.std.specs.Prelude.{bytes_eq, find}
use Rattle.std.specs.Option.{option_or}
use Rattle.std.proofs.lemmas.List.Folds.{find-append}
use Rattle.model.specs.declared.refusal.Refusal.{Refusal}
use Rattle.model.specs.declared.refusal.Refusal.TheVariants.{UnknownUser, UnknownDerivation, UnknownGoal, WrongState, NotRealised}
use Rattle.model.specs.Classes.{Admission, known_at}
use Rattle.model.specs.Worlds.{Setup, nothing, World, Resolved, Goal, Desk, is_user, known_of}
use Rattle.model.specs.Goals.{goal_at, as_seen, is_waiting}
use Rattle.model.specs.Events.{Plan, Event}
use Rattle.model.specs.Replies as replies
use Rattle.model.specs.Outcomes.{Observation, observation_of, Outcome, check, reply_of}
use Rattle.model.specs.GoalRequests.{plan_resolved, resolve_for, plan_goal}
use Rattle.model.specs.GoalRequests as requests
use Rattle.model.specs.Steps.{outcome, after, world_after}
use Rattle.model.specs.KeptClosures.{GoalsHaveDerivations, PlansFindDerivations}
use Rattle.laws.proofs.OutcomeLemmas.{checked, needed}
use Rattle.laws.proofs.GoalRequestLemmas.{planned_goal}
use Rattle.laws.proofs.KnowledgeLemmas.{GrowsBy, after_grows}
use Rattle.laws.proofs.KeptLemmas.{put_cases, goals_planned, after_follows}

-- a desk knows the derivation of a path
abbrev Knows : Desk → List ℕ → Type 0
Knows d path = is_some (known_at (known_of d) path) ≡ true

-- and of each of its goals
abbrev HasDerivations : Desk → Type 0
HasDerivations d = (n : ℕ) (g : Goal) → goal_at n d.goals ≡ Some g → Knows d g.derivation

-- ---- one event

some_or : (o p : Option Admission) → is_some o ≡ true → is_some (option_or o p) ≡ true
some_or None p h = absurd (cc)
some_or (Some a) p h = refl

-- what a desk knew is known once the desk has grown
knows_later : (e : Event) (u : List ℕ) (old later : Desk) (path : List ℕ) → GrowsBy e u old later → Knows old path → Knows later path
knows_later e u old later path (inl keeps) h = ap (λ (ds : List Admission). is_some (find (λ a. bytes_eq a.path path) ds)) keeps.derivations ∙ h
knows_later e u old later path (inr p) h =
    let test : Admission → Bool = λ a. bytes_eq a.path path in
    let more : List Admission = p.1.admission ∷ [] in
    ap (λ (ds : List Admission). is_some (find test ds)) p.1.derivations ∙ ap is_some (find-append test old.derivations more)
    ∙ some_or (find test old.derivations) (find test more) h

after_has : (setup : Setup) (w : World) (e : Event) (u : List ℕ) → HasDerivations (w u) → HasDerivations (after setup w e u)
after_has setup w e u has n g now = knows_later e u (w u) (after setup w e u) g.derivation (after_grows setup w e u) before
  where
    before : Knows (w u) g.derivation
    before = elim (after_follows setup w e u) [
      | inl follows ↦ elim (follows.kept n g now) [ inl new ↦ new.2 | inr p ↦ subst (Knows (w u)) (sym p.3) (has n p.0 p.1) ]
      | inr p ↦
          let plans = p.1 in
          let there : goal_at plans.number (w u).goals ≡ Some plans.goal = subst (λ x. goal_at plans.number (w x).goals ≡ Some plans.goal) (sym p.0) plans.there in
          elim (put_cases plans.number n (planned_goal plans.goal plans.resolved) plans.goal g (w u).goals there (ap (goal_at n) (sym (goals_planned setup w e u plans p.0)) ∙ now)) [
            | inl q ↦ subst (λ (x : Goal). Knows (w u) x.derivation) q.1 (has plans.number plans.goal there)
            | inr stays ↦ has n g stays
          ]
    ]

-- ---- events

all_have : (setup : Setup) (u : List ℕ) (w : World) (events : List Event) → HasDerivations (w u) → HasDerivations (world_after setup w events u)
unfolding world_after
all_have setup u w [] has = has
all_have setup u w (e ∷ events) has = all_have setup u (after setup w e) events (after_has setup w e u has)

pub goals_known : GoalsHaveDerivations
goals_known setup events u = all_have setup u nothing events no_goal
  where
    no_goal : (n : ℕ) (g : Goal) → goal_at n [] ≡ Some g → Knows (nothing u) g.derivation
    no_goal zero g at = absurd (cc)
    no_goal (suc n) g at = absurd (cc)

-- ---- planning

-- not this refusal
abbrev IsAnother : Outcome → Type 0
IsAnother o = reply_of o ≡ replies.Refused UnknownDerivation → ⊥

plan_another : (s : Observation) (n : ℕ) → HasDerivations s.desk → IsAnother (requests.plan s n)
plan_another s n has =
    needed IsAnother UnknownGoal (goal_at n s.desk.goals) (λ g. check WrongState (is_waiting (as_seen s.reach g.status)) (plan_goal s n g))
    (λ g there. checked IsAnother WrongState (is_waiting (as_seen s.reach g.status)) (plan_goal s n g)
    (λ waits. needed IsAnother UnknownDerivation (known_at (known_of s.desk) g.derivation) (λ a. plan_resolved s n g (resolve_for s a.derivation))
    (λ a known. resolved_another g (resolve_for s a.derivation)) (λ none. absurd (known_there (known_at (known_of s.desk) g.derivation) none (has n g there))))
    (λ begun told. cc)) (λ none told. cc)
  where
    known_there : (o : Option Admission) → o ≡ None → is_some o ≡ true → ⊥
    known_there None none h = cc
    known_there (Some a) none h = cc

    resolved_another : (g : Goal) (o : Result Resolved Refusal) → IsAnother (plan_resolved s n g o)
    resolved_another g (Ok r) told = cc
    resolved_another g (Err NotRealised) told = cc
    resolved_another g (Err why) told = cc

outcome_another : (setup : Setup) (s : Observation) (n : ℕ) → HasDerivations s.desk → IsAnother (outcome setup s (Plan n))
unfolding outcome
outcome_another setup s n has = plan_another s n has

pub plans_known : PlansFindDerivations
plans_known setup events u n =
    let w : World = world_after setup nothing events in
    let s : Observation = observation_of setup w u in
    checked IsAnother UnknownUser (is_user setup u) (outcome setup s (Plan n)) (λ user. outcome_another setup s n (goals_known setup events u)) (λ stranger told. cc)
