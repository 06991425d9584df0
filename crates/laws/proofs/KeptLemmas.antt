-- What goals keep was found when they were planned, and nothing else changes it.
use Rattle.std.proofs.Common.{◌≡◌, ℕ, zero, suc, Bool, true, false, ◌⊎◌, inl, inr, arith, refl, sym, ◌∙◌, ap, subst, List, [], ◌∷◌, ◌++◌, Option, Some, None, Result, Ok, Err}
use Rattle.std.specs.Prelude.{All, ◌==◌, ◌&&◌, if◌then◌else◌, is_some, bytes_eq, map, slice_get, slice_set}
use Rattle.std.proofs.lemmas.Bool.{cond_both, true≢false, eq-eqb}
use Rattle.std.proofs.lemmas.Bool.Decides.{nat_tests}
use Rattle.std.proofs.lemmas.List.{append-nil, append_assoc}
use Rattle.std.proofs.lemmas.List.Elements.{All-nil, All-cons, All-append, All-set, All-head, All-tail}
use Rattle.model.specs.declared.refusal.Refusal.{Refusal}
use Rattle.model.specs.declared.refusal.Refusal.TheVariants.{UnknownUser, Quota, UnknownDerivation, UnknownGoal, WrongState, NotRealised, BuilderFailed}
use Rattle.model.specs.Derivations.{Derivation}
use Rattle.model.specs.Classes.{Admission, Known, known_at}
use Rattle.model.specs.Worlds.{Setup, Resolved, Record, Status, Waiting, Planned, Building, Done, Failed, Goal, Desk, World, nothing, is_user, known_of, has_record, with_record, is_within, with_trust, Entry, with_entries}
use Rattle.model.specs.Worlds as worlds
use Rattle.model.specs.Goals.{goal_at, with_goal_at, with_goal, in_status, new_goal, as_seen, is_waiting, is_building, planned_in, members, job_of}
use Rattle.model.specs.Endings.{End, Output, Failure, built_record, done_with, with_output, ended_with, ended_goal, ended_goals}
use Rattle.model.specs.Choices as choices
use Rattle.model.specs.Closures as closures
use Rattle.model.specs.Resolutions.{input_classes, resolved_over, resolve}
use Rattle.model.specs.Events.{Request, AddSource, AddDerivation, Offer, Trust, Distrust, Pin, Unpin, Take, Build, Plan, Start, Finish, Fail, Forget, Event}
use Rattle.model.specs.Replies as replies
use Rattle.model.specs.Replies.{Reply}
use Rattle.model.specs.Outcomes.{reaches, Observation, observation_of, Notification, NoNotification, Ended, Change, Outcome, becomes, check, need, reply_of, delivered, desk_after}
use Rattle.model.specs.FinishedBuilds.{finished_build, for_class}
use Rattle.model.specs.GoalRequests.{own_job, turns, plan_resolved, resolve_for, plan_goal, done_again, start_copied, start_goal}
use Rattle.model.specs.GoalRequests as requests
use Rattle.model.specs.EndRequests.{end_job}
use Rattle.model.specs.ForgetRequests.{is_built_from, let_go}
use Rattle.model.specs.Steps.{outcome, outcome_of, reply_to, after, world_after}
use Rattle.model.specs.GivenClosures.{IsGoodFor, KeepsGoodClosure, GiveGoodClosures}
use Rattle.model.specs.KeptClosures.{planning, IsPlanned, IsWellKept, KeptClosuresAreGood, OnlyPlansChangeKept, is_planned, PlannedGoalsKeep}
use Rattle.model.proofs.BoolLemmas.{either, same_bytes, bytes_same}
use Rattle.laws.proofs.OutcomeLemmas.{one_of, checked, needed}
use Rattle.laws.proofs.QueryLemmas.{query_cases}
use Rattle.laws.proofs.SourceRequestLemmas.{add_source_cases}
use Rattle.laws.proofs.DerivationRequestLemmas.{add_derivation_cases}
use Rattle.laws.proofs.OfferRequestLemmas.{offer_cases}
use Rattle.laws.proofs.TrustRequestLemmas.{trust_cases, distrust_cases}
use Rattle.laws.proofs.PinRequestLemmas.{pin_cases}
use Rattle.laws.proofs.ClosureRequestLemmas.{take_cases}
use Rattle.laws.proofs.GoalRequestLemmas.{planned_goal, build_cases}
use Rattle.laws.proofs.EndRequestLemmas.{end_job_cases}
use Rattle.laws.proofs.ForgetRequestLemmas.{forget_cases}
use Rattle.laws.proofs.EntriesLemmas.{entries_added}
use Rattle.laws.proofs.ServedLemmas.{then_ok, some_same}
use Rattle.laws.proofs.KnowledgeLemmas.{world_after-push}

-- ---- goals that keep what goals before them kept

-- a goal that is planned or built keeps something
abbrev Stands : Goal → Type 0
Stands g = is_planned g.status ≡ true → is_some g.resolved ≡ true

-- what a goal of a number keeps the goal of that number kept before, and its derivation is the same; a goal that was not there keeps nothing, and its
-- derivation is known
abbrev pub HasKept : Known → List Goal → ℕ → Goal → Type 0
HasKept known old n g =
    ((goal_at n old ≡ None) × (g.resolved ≡ None) × (is_some (known_at known g.derivation) ≡ true))
    ⊎ ((h : Goal) × (goal_at n old ≡ Some h) × (g.resolved ≡ h.resolved) × (g.derivation ≡ h.derivation))

-- each of the goals does
pub record Follows (known : Known) (old later : List Goal) : Type 0 where
  pub kept : (n : ℕ) (g : Goal) → goal_at n later ≡ Some g → HasKept known old n g
  none : (n : ℕ) → goal_at n later ≡ None → goal_at n old ≡ None
  stand : All Stands old → All Stands later

follows_itself : {known : Known} (goals : List Goal) → Follows known goals goals
follows_itself goals = record { kept = λ n g there. inr (g, there, refl, refl); none = λ n absent. absent; stand = λ all. all }

follows_same : {known : Known} (old later : List Goal) → later ≡ old → Follows known old later
follows_same {known} old later same = subst (Follows known old) (sym same) (follows_itself old)

follows_further : {known : Known} (a b c : List Goal) → Follows known a b → Follows known b c → Follows known a c
follows_further {known} a b c first next = record {
  kept = λ n g there. elim (next.kept n g there) [
    | inl none ↦ inl (first.none n none.0, none.1, none.2)
    | inr p ↦ elim (first.kept n p.0 p.1) [
      | inl none ↦ inl (none.0, p.2 ∙ none.1, ap (λ d. is_some (known_at known d)) p.3 ∙ none.2)
      | inr q ↦ inr (q.0, q.1, p.2 ∙ q.2, p.3 ∙ q.3)
    ]
  ];
  none = λ n absent. first.none n (next.none n absent);
  stand = λ all. next.stand (first.stand all);
}

-- of one goal what it keeps and its derivation are the same
as_it : (x y : Goal) → Some x ≡ Some y → (y.resolved ≡ x.resolved) × (y.derivation ≡ x.derivation)
as_it x y at = let own : y ≡ x = sym (some_same x y at) in (ap (λ (q : Goal). q.resolved) own, ap (λ (q : Goal). q.derivation) own)

-- a goal in the place of one of the same derivation that kept the same
put_kept : (i : ℕ) (x g : Goal) (goals : List Goal) → slice_get goals i ≡ Some g → x.resolved ≡ g.resolved → x.derivation ≡ g.derivation
    → (j : ℕ) (y : Goal) → slice_get (slice_set goals i x) j ≡ Some y
    → (h : Goal) × (slice_get goals j ≡ Some h) × (y.resolved ≡ h.resolved) × (y.derivation ≡ h.derivation)
put_kept i x g [] there same derived j y at = absurd (cc)
put_kept zero x g (z ∷ goals) there same derived zero y at =
    let own = as_it x y at in
    let old = as_it z g there in
    (z, refl, own.0 ∙ same ∙ old.0, own.1 ∙ derived ∙ old.1)
put_kept zero x g (z ∷ goals) there same derived (suc j) y at = (y, at, refl, refl)
put_kept (suc i) x g (z ∷ goals) there same derived zero y at = let own = as_it z y at in (z, refl, own.0, own.1)
put_kept (suc i) x g (z ∷ goals) there same derived (suc j) y at = put_kept i x g goals there same derived j y at

put_none : (i : ℕ) (x : Goal) (goals : List Goal) (j : ℕ) → slice_get (slice_set goals i x) j ≡ None → slice_get goals j ≡ None
put_none i x [] j absent = absent
put_none zero x (z ∷ goals) zero absent = cc
put_none zero x (z ∷ goals) (suc j) absent = absent
put_none (suc i) x (z ∷ goals) zero absent = absent
put_none (suc i) x (z ∷ goals) (suc j) absent = put_none i x goals j absent

follows_put : {known : Known} (n : ℕ) (x g : Goal) (goals : List Goal) → goal_at n goals ≡ Some g → x.resolved ≡ g.resolved
    → x.derivation ≡ g.derivation → Stands x
    → Follows known goals (with_goal_at n x goals)
follows_put zero x g goals there same derived stands = follows_itself goals
follows_put {known} (suc i) x g goals there same derived stands = record { kept = kept; none = none; stand = λ all. All-set Stands goals i x stands all }
  where
    none : (n : ℕ) → goal_at n (slice_set goals i x) ≡ None → goal_at n goals ≡ None
    none zero absent = refl
    none (suc j) absent = put_none i x goals j absent

    kept : (n : ℕ) (y : Goal) → goal_at n (slice_set goals i x) ≡ Some y → HasKept known goals n y
    kept zero y at = absurd (cc)
    kept (suc j) y at = inr (put_kept i x g goals there same derived j y at)

-- a goal that is done, failed or waits again
follows_status : {known : Known} (n : ℕ) (s : Status) (g : Goal) (goals : List Goal) → goal_at n goals ≡ Some g → is_planned s ≡ false
    → Follows known goals (with_goal_at n (in_status s g) goals)
follows_status n s g goals there idle = follows_put n (in_status s g) g goals there refl refl (λ planned. absurd (cc))

-- a new goal
pushed_kept : (derivation : List ℕ) (goals : List Goal) (i : ℕ) (y : Goal) → slice_get (goals ++ new_goal derivation ∷ []) i ≡ Some y
    → ((slice_get goals i ≡ None) × (y.resolved ≡ None) × (y.derivation ≡ derivation)) ⊎ ((h : Goal) × (slice_get goals i ≡ Some h) × (y.resolved ≡ h.resolved) × (y.derivation ≡ h.derivation))
pushed_kept derivation [] zero y at = let own = as_it (new_goal derivation) y at in inl (refl, own.0, own.1)
pushed_kept derivation [] (suc i) y at = absurd (cc)
pushed_kept derivation (z ∷ goals) zero y at = let own = as_it z y at in inr (z, refl, own.0, own.1)
pushed_kept derivation (z ∷ goals) (suc i) y at = pushed_kept derivation goals i y at

pushed_none : (derivation : List ℕ) (goals : List Goal) (i : ℕ) → slice_get (goals ++ new_goal derivation ∷ []) i ≡ None → slice_get goals i ≡ None
pushed_none derivation [] i absent = refl
pushed_none derivation (z ∷ goals) zero absent = absent
pushed_none derivation (z ∷ goals) (suc i) absent = pushed_none derivation goals i absent

follows_new : {known : Known} (derivation : List ℕ) (goals : List Goal) → is_some (known_at known derivation) ≡ true
    → Follows known goals (goals ++ new_goal derivation ∷ [])
follows_new {known} derivation goals knows = record {
  kept = kept;
  none = none;
  stand = λ all. All-append Stands goals (new_goal derivation ∷ []) all (All-cons Stands (new_goal derivation) [] (λ planned. absurd (cc)) (All-nil Stands));
}
  where
    kept : (n : ℕ) (y : Goal) → goal_at n (goals ++ new_goal derivation ∷ []) ≡ Some y → HasKept known goals n y
    kept zero y at = absurd (cc)
    kept (suc i) y at = elim (pushed_kept derivation goals i y at) [ inl p ↦ inl (p.0, p.1, ap (λ d. is_some (known_at known d)) p.2 ∙ knows) | inr old ↦ inr old ]

    none : (n : ℕ) → goal_at n (goals ++ new_goal derivation ∷ []) ≡ None → goal_at n goals ≡ None
    none zero absent = refl
    none (suc i) absent = pushed_none derivation goals i absent

-- ---- what is forgotten

-- whatever becomes of a goal whose record is forgotten, it keeps the same, and is of the same derivation
let_go_keeps : (class path : List ℕ) (g : Goal) → ((let_go class path g).resolved ≡ g.resolved) × ((let_go class path g).derivation ≡ g.derivation)
let_go_keeps class path g =
    cond_both (is_building g.status && is_built_from class path g.resolved) (in_status Waiting g) g (λ h. (h.resolved ≡ g.resolved) × (h.derivation ≡ g.derivation))
    (λ waits. (refl, refl)) (λ stays. (refl, refl))

let_go_stands : (class path : List ℕ) (g : Goal) → Stands g → Stands (let_go class path g)
let_go_stands class path g stands =
    cond_both (is_building g.status && is_built_from class path g.resolved) (in_status Waiting g) g Stands (λ waits planned. absurd (cc)) (λ stays. stands)

all_let_go_kept : (class path : List ℕ) (goals : List Goal) (i : ℕ) (y : Goal) → slice_get (map (let_go class path) goals) i ≡ Some y
    → (h : Goal) × (slice_get goals i ≡ Some h) × (y.resolved ≡ h.resolved) × (y.derivation ≡ h.derivation)
all_let_go_kept class path [] i y at = absurd (cc)
all_let_go_kept class path (g ∷ goals) zero y at =
    let own = as_it (let_go class path g) y at in
    let keeps = let_go_keeps class path g in
    (g, refl, own.0 ∙ keeps.0, own.1 ∙ keeps.1)
all_let_go_kept class path (g ∷ goals) (suc i) y at = all_let_go_kept class path goals i y at

all_let_go_stand : (class path : List ℕ) (goals : List Goal) → All Stands goals → All Stands (map (let_go class path) goals)
all_let_go_stand class path [] all = All-nil Stands
all_let_go_stand class path (g ∷ goals) all =
    All-cons Stands (let_go class path g) (map (let_go class path) goals) (let_go_stands class path g (All-head Stands g goals all))
    (all_let_go_stand class path goals (All-tail Stands g goals all))

all_let_go_none : (class path : List ℕ) (goals : List Goal) (i : ℕ) → slice_get (map (let_go class path) goals) i ≡ None → slice_get goals i ≡ None
all_let_go_none class path [] i absent = absent
all_let_go_none class path (g ∷ goals) zero absent = cc
all_let_go_none class path (g ∷ goals) (suc i) absent = all_let_go_none class path goals i absent

follows_let_go : {known : Known} (class path : List ℕ) (goals : List Goal) → Follows known goals (map (let_go class path) goals)
follows_let_go {known} class path goals = record { kept = kept; none = none; stand = all_let_go_stand class path goals }
  where
    none : (n : ℕ) → goal_at n (map (let_go class path) goals) ≡ None → goal_at n goals ≡ None
    none zero absent = refl
    none (suc i) absent = all_let_go_none class path goals i absent

    kept : (n : ℕ) (y : Goal) → goal_at n (map (let_go class path) goals) ≡ Some y → HasKept known goals n y
    kept zero y at = absurd (cc)
    kept (suc i) y at = inr (all_let_go_kept class path goals i y at)

-- ---- the end of a job

follows_if : {known : Known} (b : Bool) (goals : List Goal) (c d : Desk) → Follows known goals c.goals → Follows known goals d.goals
    → Follows known goals (if b then c else d).goals
follows_if true goals c d one other = one
follows_if false goals c d one other = other

follows_done : {known : Known} (setup : Setup) (n : ℕ) (g : Goal) (r : Record) (d : Desk) → goal_at n d.goals ≡ Some g
    → Follows known d.goals (done_with setup n g r d).goals
follows_done {known} setup n g r d there =
    let done : Follows known d.goals (with_goal_at n (in_status (Done r.path) g) d.goals) = follows_status n (Done r.path) g d.goals there refl in
    let failed : Follows known d.goals (with_goal_at n (in_status (Failed Quota) g) d.goals) = follows_status n (Failed Quota) g d.goals there refl in
    let added : Desk = if is_within setup (with_record r d) then with_goal n (in_status (Done r.path) g) (with_record r d) else with_goal n (in_status (Failed Quota) g) d in
    follows_if (has_record r d) d.goals (with_goal n (in_status (Done r.path) g) d) added done
    (follows_if (is_within setup (with_record r d)) d.goals (with_goal n (in_status (Done r.path) g) (with_record r d)) (with_goal n (in_status (Failed Quota) g) d) done failed)

follows_output : {known : Known} (setup : Setup) (n : ℕ) (g : Goal) (o : Result Record Refusal) (d : Desk) → goal_at n d.goals ≡ Some g
    → Follows known d.goals (with_output setup n g o d).goals
follows_output setup n g (Ok r) d there = follows_done setup n g r d there
follows_output setup n g (Err why) d there = follows_status n (Failed why) g d.goals there refl

follows_ended_with : {known : Known} (setup : Setup) (n : ℕ) (g : Goal) (end : End) (d : Desk) → goal_at n d.goals ≡ Some g
    → Follows known d.goals (ended_with setup n g end d).goals
follows_ended_with setup n g (Output bytes) d there = follows_output setup n g (built_record (known_of d) g bytes) d there
follows_ended_with setup n g Failure d there = follows_status n (Failed BuilderFailed) g d.goals there refl

follows_ended : {known : Known} (setup : Setup) (reached : Bool) (end : End) (n : ℕ) (o : Option Goal) (d : Desk) → goal_at n d.goals ≡ o
    → Follows known d.goals (ended_goal setup reached end n o d).goals
follows_ended setup reached end n None d there = follows_itself d.goals
follows_ended setup reached end n (Some g) d there =
    follows_if reached d.goals (ended_with setup n g end d) (with_goal n (in_status Waiting g) d)
    (follows_ended_with setup n g end d there) (follows_status n Waiting g d.goals there refl)

follows_all_ended : {known : Known} (setup : Setup) (reached : Bool) (end : End) (ns : List ℕ) (d : Desk)
    → Follows known d.goals (ended_goals setup reached end ns d).goals
unfolding ended_goals
follows_all_ended setup reached end [] d = follows_itself d.goals
follows_all_ended setup reached end (n ∷ ns) d =
    let next : Desk = ended_goal setup reached end n (goal_at n d.goals) d in
    follows_further d.goals next.goals (ended_goals setup reached end ns next).goals
    (follows_ended setup reached end n (goal_at n d.goals) d refl) (follows_all_ended setup reached end ns next)

follows_delivered : {known : Known} (setup : Setup) (actor : List ℕ) (reached : Bool) (notification : Notification) (d : Desk)
    → Follows known d.goals (delivered setup actor reached notification d).goals
follows_delivered setup actor reached NoNotification d = follows_itself d.goals
follows_delivered setup actor reached (Ended n end) d = follows_all_ended setup reached end (members (record { leader = actor; number = n }) 1 d.goals) d

-- ---- what a request does to the goals of its user

-- a goal that waited is planned: it keeps what a derivation that is known was resolved to
pub record PlansGoal (s : Observation) (r : Request) (o : Outcome) : Type 0 where
  pub number : ℕ
  pub asked : r ≡ Plan number
  pub goal : Goal
  pub admission : Admission
  pub resolved : Resolved
  pub there : goal_at number s.desk.goals ≡ Some goal
  pub known : known_at (known_of s.desk) goal.derivation ≡ Some admission
  pub is : resolve_for s admission.derivation ≡ Ok resolved
  pub outcome_is : o ≡ becomes (with_goal number (planned_goal goal resolved) s.desk) (replies.Status Planned)

-- what the goals keep was kept before, or the request is refused
abbrev GoalsFollow : Observation → Outcome → Type 0
GoalsFollow s (Err why) = Unit {0}
GoalsFollow s (Ok c) = Follows (known_of s.desk) s.desk.goals c.desk.goals

abbrev Fits : Observation → Request → Outcome → Type 0
Fits s r o = GoalsFollow s o ⊎ PlansGoal s r o

module _ (s : Observation) (n : ℕ) where
  plan_fits : Fits s (Plan n) (requests.plan s n)
  plan_fits =
      let P : Outcome → Type 0 = Fits s (Plan n) in
      needed P UnknownGoal (goal_at n s.desk.goals) (λ g. check WrongState (is_waiting (as_seen s.reach g.status)) (plan_goal s n g))
      (λ g there. checked P WrongState (is_waiting (as_seen s.reach g.status)) (plan_goal s n g)
      (λ waits. needed P UnknownDerivation (known_at (known_of s.desk) g.derivation) (λ a. plan_resolved s n g (resolve_for s a.derivation))
      (λ a known. resolved_so g a there known (resolve_for s a.derivation) refl) (λ none. inl tt)) (λ begun. inl tt))
      (λ none. inl tt)
    where
      failed_so : (g : Goal) (why : Refusal) → goal_at n s.desk.goals ≡ Some g → Fits s (Plan n) (turns s s.desk n (in_status (Failed why) g))
      failed_so g why there = inl (follows_status n (Failed why) g s.desk.goals there refl)

      resolved_so : (g : Goal) (a : Admission) → goal_at n s.desk.goals ≡ Some g → known_at (known_of s.desk) g.derivation ≡ Some a
          → (o : Result Resolved Refusal) → resolve_for s a.derivation ≡ o → Fits s (Plan n) (plan_resolved s n g o)
      resolved_so g a there known (Ok r) is = inr (record {
        number = n;
        asked = refl;
        goal = g;
        admission = a;
        resolved = r;
        there = there;
        known = known;
        is = is;
        outcome_is = refl;
      })
      resolved_so g a there known (Err NotRealised) is = inl tt
      resolved_so g a there known (Err why) is = failed_so g why there

  -- where it is answered that the goal is planned, it is
  planned_so : reply_of (requests.plan s n) ≡ replies.Status Planned → PlansGoal s (Plan n) (requests.plan s n)
  planned_so =
      let P : Outcome → Type 0 = λ o. reply_of o ≡ replies.Status Planned → PlansGoal s (Plan n) o in
      needed P UnknownGoal (goal_at n s.desk.goals) (λ g. check WrongState (is_waiting (as_seen s.reach g.status)) (plan_goal s n g))
      (λ g there. checked P WrongState (is_waiting (as_seen s.reach g.status)) (plan_goal s n g)
      (λ waits. needed P UnknownDerivation (known_at (known_of s.desk) g.derivation) (λ a. plan_resolved s n g (resolve_for s a.derivation))
      (λ a known. resolved_so g a there known (resolve_for s a.derivation) refl) (λ none told. cc)) (λ begun told. cc))
      (λ none told. cc)
    where
      resolved_so : (g : Goal) (a : Admission) → goal_at n s.desk.goals ≡ Some g → known_at (known_of s.desk) g.derivation ≡ Some a
          → (o : Result Resolved Refusal) → resolve_for s a.derivation ≡ o → reply_of (plan_resolved s n g o) ≡ replies.Status Planned
          → PlansGoal s (Plan n) (plan_resolved s n g o)
      resolved_so g a there known (Ok r) is told = record {
        number = n;
        asked = refl;
        goal = g;
        admission = a;
        resolved = r;
        there = there;
        known = known;
        is = is;
        outcome_is = refl;
      }
      resolved_so g a there known (Err NotRealised) is told = absurd (cc)
      resolved_so g a there known (Err why) is told = absurd (cc)

-- a planned goal keeps what it is started with
pub kept_in : (s : Status) (kept : Option Resolved) (r : Resolved) → planned_in s kept ≡ Some r → kept ≡ Some r
kept_in Waiting kept r e = absurd (cc)
kept_in Planned kept r e = e
kept_in (Building job) kept r e = absurd (cc)
kept_in (Done path) kept r e = absurd (cc)
kept_in (Failed why) kept r e = absurd (cc)

-- a goal that is done with what was built already, or for which there is no room
again_fits : (setup : Setup) (s : Observation) (n : ℕ) (g : Goal) (q : Record) (d : Desk) → goal_at n d.goals ≡ Some g → d.goals ≡ s.desk.goals
    → GoalsFollow s (done_again setup s d n g q)
again_fits setup s n g q d there same =
    let P : Outcome → Type 0 = GoalsFollow s in
    let done : Goal = in_status (Done q.path) g in
    let failed : Goal = in_status (Failed Quota) g in
    let known : Known = known_of s.desk in
    let follows : (x : Goal) → Follows known d.goals (with_goal_at n x d.goals) → Follows known s.desk.goals (with_goal_at n x d.goals) =
    λ x own. subst (λ goals. Follows known goals (with_goal_at n x d.goals)) same own in
    let is_done : Follows known s.desk.goals (with_goal_at n done d.goals) = follows done (follows_status n (Done q.path) g d.goals there refl) in
    let is_failed : Follows known s.desk.goals (with_goal_at n failed d.goals) = follows failed (follows_status n (Failed Quota) g d.goals there refl) in
    one_of P (has_record q d) (turns s d n done)
    (if is_within setup (with_record q d) then turns s (with_record q d) n done else turns s d n failed)
    (λ had. is_done)
    (λ new. one_of P (is_within setup (with_record q d)) (turns s (with_record q d) n done) (turns s d n failed) (λ fits. is_done) (λ full. is_failed))

-- a goal whose closure is copied
copied_fits : (setup : Setup) (s : Observation) (n : ℕ) (g : Goal) (r : Resolved) (known : Option Admission) (built : Option Record) (d : Desk)
    → goal_at n d.goals ≡ Some g → d.goals ≡ s.desk.goals → is_some g.resolved ≡ true → GoalsFollow s (start_copied setup s d n g r known built)
copied_fits setup s n g r known built d there same keeps = of known built
  where
    entered : GoalsFollow s (turns s d n (in_status (Building (job_of s.running (own_job s n) r)) g))
    entered =
        let x : Goal = in_status (Building (job_of s.running (own_job s n) r)) g in
        subst (λ goals. Follows (known_of s.desk) goals (with_goal_at n x d.goals)) same (follows_put n x g d.goals there refl refl (λ planned. keeps))

    of : (known : Option Admission) (built : Option Record) → GoalsFollow s (start_copied setup s d n g r known built)
    of (Some a) (Some q) = again_fits setup s n g (for_class a.class q) d there same
    of (Some a) None = entered
    of None built = entered

start_fits : (setup : Setup) (s : Observation) (n : ℕ) → GoalsFollow s (requests.start setup s n)
start_fits setup s n =
    let P : Outcome → Type 0 = GoalsFollow s in
    needed P UnknownGoal (goal_at n s.desk.goals) (λ g. need WrongState (planned_in g.status g.resolved) (start_goal setup s n g))
    (λ g there. needed P WrongState (planned_in g.status g.resolved) (start_goal setup s n g)
    (λ r is.
    let copied : Desk = with_entries r.closure s.desk in
    let same : copied.goals ≡ s.desk.goals = (entries_added r.closure s.desk).goals in
    let known : Option Admission = known_at (known_of s.desk) g.derivation in
    let built : Option Record = finished_build s.view r in
    one_of P (is_within setup copied) (start_copied setup s copied n g r known built) (turns s s.desk n (in_status (Failed Quota) g))
    (λ within. copied_fits setup s n g r known built copied (ap (goal_at n) same ∙ there) same (ap is_some (kept_in g.status g.resolved r is)))
    (λ outside. follows_status n (Failed Quota) g s.desk.goals there refl))
    (λ none. tt)) (λ absent. tt)

end_fits : (setup : Setup) (s : Observation) (n : ℕ) (end : End) → GoalsFollow s (end_job setup s n end)
end_fits setup s n end = end_job_cases (GoalsFollow s) setup s n end (λ g there leads. follows_itself s.desk.goals) tt (λ absent. tt)

-- the case of each request
outcome_fits : (setup : Setup) (s : Observation) (r : Request) → Fits s r (outcome setup s r)
unfolding outcome
outcome_fits setup s (AddSource name tree) =
    inl (add_source_cases (GoalsFollow s) setup s.desk name tree (follows_itself s.desk.goals) (follows_itself s.desk.goals) tt)
outcome_fits setup s (AddDerivation text) =
    inl (add_derivation_cases (GoalsFollow s) setup s.desk text
    (record { had = λ a. follows_itself s.desk.goals; added = λ derivation a is. follows_itself s.desk.goals; over = tt; unread = tt; missing = tt; high = tt }) (λ large. tt))
outcome_fits setup s (Offer path tree) =
    inl (offer_cases (GoalsFollow s) setup s.desk path tree
    (record { had = λ r. follows_itself s.desk.goals; added = λ r. follows_itself s.desk.goals; over = tt; refused = λ why. tt; unknown = λ absent. tt }))
outcome_fits setup s (Trust other) =
    inl (trust_cases (GoalsFollow s) setup s other
    (λ known. cond_both (bytes_eq other s.user) s.desk (with_trust other s.desk) (λ (d : Desk). Follows (known_of s.desk) s.desk.goals d.goals) (λ own. follows_itself s.desk.goals) (λ another. follows_itself s.desk.goals)) tt)
outcome_fits setup s (Distrust other) = inl (distrust_cases (GoalsFollow s) setup s other (follows_itself s.desk.goals) tt)
outcome_fits setup s (Pin class path) = inl (pin_cases (GoalsFollow s) setup s.desk class path (follows_itself s.desk.goals) tt)
outcome_fits setup s (Unpin class) = inl (follows_itself s.desk.goals)
outcome_fits setup s (Take class) =
    inl (take_cases (GoalsFollow s) s class setup
    (λ entries path given there. follows_same s.desk.goals (with_entries entries s.desk).goals (entries_added entries s.desk).goals) tt tt (λ why. tt) tt)
outcome_fits setup s (Build path) =
    inl (build_cases (GoalsFollow s) s.desk path (λ a known. follows_new path s.desk.goals (ap is_some known)) (λ full. tt) (λ unknown. tt))
outcome_fits setup s (Plan n) = plan_fits s n
outcome_fits setup s (Start n) = inl (start_fits setup s n)
outcome_fits setup s (Finish n bytes) = inl (end_fits setup s n (Output bytes))
outcome_fits setup s (Fail n status) = inl (end_fits setup s n Failure)
outcome_fits setup s (Forget class path) = inl (forget_cases (GoalsFollow s) s class path (follows_let_go class path s.desk.goals) tt tt)
outcome_fits setup s query = inl (query_cases (GoalsFollow s) setup s query refl (λ reply own. follows_itself s.desk.goals) (λ why own. tt))

-- ---- one event

-- what the goals of a user keep was kept before, or the event is his own and plans one
abbrev pub FollowsOrPlans : Setup → World → Event → List ℕ → Desk → Type 0
FollowsOrPlans setup w e u later = Follows (known_of (w u)) (w u).goals later.goals ⊎ ((u ≡ e.actor) × PlansGoal (observation_of setup w e.actor) e.request (outcome_of setup w e))

module _ (setup : Setup) (w : World) (e : Event) (u : List ℕ) (reached : Bool) where
  -- the actor's desk, or another, before a notification is delivered
  own_or_other : (c : Change) → Follows (known_of (w e.actor)) (w e.actor).goals c.desk.goals
      → Follows (known_of (w u)) (w u).goals (if bytes_eq u e.actor then c.desk else w u).goals
  own_or_other c follows =
      cond_both (bytes_eq u e.actor) c.desk (w u) (λ (d : Desk). Follows (known_of (w u)) (w u).goals d.goals)
      (λ yes. subst (λ x. Follows (known_of (w x)) (w x).goals c.desk.goals) (sym (same_bytes u e.actor yes)) follows) (λ no. follows_itself (w u).goals)

  delivered_follows : (c : Change) → Follows (known_of (w u)) (w u).goals (if bytes_eq u e.actor then c.desk else w u).goals
      → Follows (known_of (w u)) (w u).goals (desk_after setup e.actor (Ok c) u reached (w u)).goals
  delivered_follows c follows =
      let d : Desk = if bytes_eq u e.actor then c.desk else w u in
      follows_further (w u).goals d.goals (delivered setup e.actor reached c.notification d).goals follows (follows_delivered setup e.actor reached c.notification d)

  after_outcome : (o : Outcome) → outcome_of setup w e ≡ o → Fits (observation_of setup w e.actor) e.request o
      → FollowsOrPlans setup w e u (desk_after setup e.actor o u reached (w u))
  after_outcome (Err why) is fits = inl (follows_itself (w u).goals)
  after_outcome (Ok c) is (inl follows) = inl (delivered_follows c (own_or_other c follows))
  after_outcome (Ok c) is (inr plans) = elim (either (bytes_eq u e.actor)) [
    | inl own ↦ inr (same_bytes u e.actor own, subst (PlansGoal (observation_of setup w e.actor) e.request) (sym is) plans)
    | inr other ↦ inl (delivered_follows c (subst (λ (b : Bool). Follows (known_of (w u)) (w u).goals (if b then c.desk else w u).goals) (sym other) (follows_itself (w u).goals)))
  ]

pub after_follows : (setup : Setup) (w : World) (e : Event) (u : List ℕ) → FollowsOrPlans setup w e u (after setup w e u)
after_follows setup w e u =
    after_outcome setup w e u (reaches setup w u e.actor) (outcome_of setup w e) refl
    (cond_both (is_user setup e.actor) (outcome setup (observation_of setup w e.actor) e.request) (Err UnknownUser) (Fits (observation_of setup w e.actor) e.request)
    (λ yes. outcome_fits setup (observation_of setup w e.actor) e.request) (λ no. inl tt))

-- ---- what is kept after events

-- a goal of a number in the place of another
pub put_cases : (m n : ℕ) (x g y : Goal) (goals : List Goal) → goal_at m goals ≡ Some g → goal_at n (with_goal_at m x goals) ≡ Some y
    → ((n ≡ m) × (x ≡ y)) ⊎ (goal_at n goals ≡ Some y)
put_cases zero n x g y goals there at = absurd (cc)
put_cases (suc i) zero x g y goals there at = absurd (cc)
put_cases (suc i) (suc j) x g y goals there at = elim (set_cases i j x g y goals there at) [ inl p ↦ inl (ap suc p.0, p.1) | inr other ↦ inr other ]
  where
    set_cases : (i j : ℕ) (x g y : Goal) (goals : List Goal) → slice_get goals i ≡ Some g → slice_get (slice_set goals i x) j ≡ Some y
        → ((j ≡ i) × (x ≡ y)) ⊎ (slice_get goals j ≡ Some y)
    set_cases i j x g y [] there at = absurd (cc)
    set_cases zero zero x g y (z ∷ goals) there at = inl (refl, some_same x y at)
    set_cases zero (suc j) x g y (z ∷ goals) there at = inr at
    set_cases (suc i) zero x g y (z ∷ goals) there at = inr at
    set_cases (suc i) (suc j) x g y (z ∷ goals) there at = elim (set_cases i j x g y goals there at) [ inl p ↦ inl (ap suc p.0, p.1) | inr other ↦ inr other ]

-- the one that was put is there
pub put_there : (n : ℕ) (x g : Goal) (goals : List Goal) → goal_at n goals ≡ Some g → goal_at n (with_goal_at n x goals) ≡ Some x
put_there zero x g goals there = absurd (cc)
put_there (suc i) x g goals there = set_there i goals there
  where
    set_there : (i : ℕ) (goals : List Goal) → slice_get goals i ≡ Some g → slice_get (slice_set goals i x) i ≡ Some x
    set_there i [] there = absurd (cc)
    set_there zero (z ∷ goals) there = refl
    set_there (suc i) (z ∷ goals) there = set_there i goals there

-- a derivation that was resolved has the closure of what was chosen for it
resolved_plan : (view : List Desk) (pins : List worlds.Pin) (known : Known) (d : Derivation) (r : Resolved) → resolve view pins known d ≡ Ok r
    → (p : choices.Plan) × (choices.closure_plan view pins (input_classes known d) d.sources ≡ Ok p)
resolved_plan view pins known d r is =
    let classes : List (List ℕ) = input_classes known d in
    let one = then_ok (closures.closure_entries view pins classes d.sources) (resolved_over classes d) r is in
    let two = then_ok (choices.closure_plan view pins classes d.sources) closures.served_plan one.0 one.1 in
    (two.0, two.1)

-- the goals of the actor after a change of which nothing is delivered
pub goals_after : (setup : Setup) (w : World) (e : Event) (d : Desk) (reply : Reply) → outcome_of setup w e ≡ becomes d reply
    → (after setup w e e.actor).goals ≡ d.goals
goals_after setup w e d reply o =
    ap (λ (p : Outcome). (desk_after setup e.actor p e.actor (reaches setup w e.actor e.actor) (w e.actor)).goals) o
    ∙ ap (λ (b : Bool). (if b then d else w e.actor).goals) (bytes_same e.actor)

-- a list with one element more, cut at an element
push_split : (xs : List Event) (x : Event) (ys : List Event) (y : Event) (zs : List Event) → xs ++ x ∷ [] ≡ ys ++ y ∷ zs
    → ((xs ≡ ys) × (x ≡ y)) ⊎ ((ws : List Event) × (xs ≡ ys ++ y ∷ ws))
push_split [] x [] y zs same = inl (refl, cc)
push_split [] x (z ∷ []) y zs same = absurd (cc)
push_split [] x (z ∷ w ∷ ys) y zs same = absurd (cc)
push_split (x' ∷ xs) x [] y zs same = inr (xs, cc)
push_split (x' ∷ xs) x (z ∷ ys) y zs same =
    let head : x' ≡ z = cc in
    elim (push_split xs x ys y zs (cc)) [
      | inl p ↦ inl ((λ i. head i ∷ p.0 i), p.1)
      | inr p ↦ inr (p.0, λ i. head i ∷ p.1 i)
    ]

-- an event that plans the goal of that number, as it is answered
abbrev PlansAgain : Setup → List Event → Event → List ℕ → ℕ → Type 0
PlansAgain setup done e u n = (e ≡ planning u n) × IsPlanned setup (world_after setup nothing done) u n

abbrev says_planned : Reply → Bool
says_planned (replies.Status Planned) = true
says_planned reply = false

planned_said : (reply : Reply) → says_planned reply ≡ true → reply ≡ replies.Status Planned
planned_said (replies.Status Planned) says = refl
planned_said reply says = absurd (true≢false (sym says))

abbrev asks_plan : Request → ℕ → Bool
asks_plan (Plan m) n = m == n
asks_plan r n = false

plan_asked : (r : Request) (n : ℕ) → asks_plan r n ≡ true → r ≡ Plan n
plan_asked (Plan m) n asks = let e : m ≡ n = grind (arith, nat_tests) in ap Plan e
plan_asked r n asks = absurd (true≢false (sym asks))

-- it does, or does not
plans_or_not : (setup : Setup) (done : List Event) (e : Event) (u : List ℕ) (n : ℕ) → PlansAgain setup done e u n ⊎ (PlansAgain setup done e u n → ⊥)
plans_or_not setup done e u n =
    let w : World = world_after setup nothing done in
    elim (either (bytes_eq u e.actor)) [
      | inr other ↦ inr (λ plans. true≢false (sym (bytes_same u) ∙ ap (bytes_eq u) (sym (ap (λ (x : Event). x.actor) plans.0)) ∙ other))
      | inl own ↦ elim (either (asks_plan e.request n)) [
        | inr other ↦ inr (λ plans. true≢false (sym (eq-eqb n n refl) ∙ (sym (ap (λ (x : Event). asks_plan x.request n) plans.0) ∙ other)))
        | inl asks ↦
            let event : e ≡ planning u n = λ j. record { actor = sym (same_bytes u e.actor own) j; request = plan_asked e.request n asks j } in
            elim (either (says_planned (reply_to setup w (planning u n)))) [
              | inl says ↦ inl (event, planned_said (reply_to setup w (planning u n)) says)
              | inr other ↦ inr (λ plans. true≢false (sym (ap says_planned plans.1) ∙ other))
            ]
      ]
    ]

-- all that the goals of a user keep is well kept
abbrev WellKept : Setup → List Event → List ℕ → Type 0
WellKept setup events u = (n : ℕ) (g : Goal) (r : Resolved) → goal_at n (world_after setup nothing events u).goals ≡ Some g → g.resolved ≡ Some r → IsWellKept setup events u n r

-- what was well kept is so after one event more that does not plan the goal
kept_longer : (setup : Setup) (done : List Event) (e : Event) (u : List ℕ) (n : ℕ) (r : Resolved) → (PlansAgain setup done e u n → ⊥)
    → IsWellKept setup done u n r → IsWellKept setup (done ++ e ∷ []) u n r
kept_longer setup done e u n r other old = record {
  before = old.before;
  later = old.later ++ e ∷ [];
  cut = ap (λ events. events ++ e ∷ []) old.cut ∙ append_assoc old.before (planning u n ∷ old.later) (e ∷ []);
  world = old.world;
  reached = old.reached;
  told = old.told;
  last = λ since rest same told. elim (push_split old.later e since (planning u n) rest same) [
    | inl p ↦ other (
      p.1,
      subst (λ (events : List Event). IsPlanned setup (world_after setup nothing events) u n)
          (ap (λ (events : List Event). old.before ++ planning u n ∷ events) (sym p.0) ∙ sym old.cut) told,
    )
    | inr p ↦ old.last since p.0 p.1 told
  ];
  goal = old.goal;
  there = old.there;
  admission = old.admission;
  known = old.known;
  resolved = old.resolved;
  plan = old.plan;
  planned = old.planned;
  whole = old.whole;
  gone = old.gone;
}

-- what an event plans is well kept
kept_now : (setup : Setup) (done : List Event) (e : Event) (n : ℕ) (r : Resolved)
    → (plans : PlansGoal (observation_of setup (world_after setup nothing done) e.actor) e.request (outcome_of setup (world_after setup nothing done) e))
    → n ≡ plans.number → r ≡ plans.resolved → KeepsGoodClosure setup (world_after setup nothing done) e → IsWellKept setup (done ++ e ∷ []) e.actor n r
kept_now setup done e n r plans number same good =
    let w : World = world_after setup nothing done in
    let u : List ℕ = e.actor in
    let s : Observation = observation_of setup w u in
    let d = plans.admission.derivation in
    let new : Goal = planned_goal plans.goal plans.resolved in
    let told : reply_to setup w e ≡ replies.Status Planned = ap reply_of plans.outcome_is in
    let there : goal_at plans.number (after setup w e u).goals ≡ Some new =
    ap (goal_at plans.number) (goals_after setup w e (with_goal plans.number new s.desk) (replies.Status Planned) plans.outcome_is)
    ∙ put_there plans.number new plans.goal s.desk.goals plans.there in
    let chosen = resolved_plan s.view s.desk.pins (known_of s.desk) d plans.resolved plans.is in
    let is_good : IsGoodFor setup w u (input_classes (known_of (w u)) d) d.sources plans.resolved.closure =
    good plans.number new plans.admission plans.resolved plans.asked told there refl plans.known in
    let both = is_good chosen.0 chosen.1 in
    let event : e ≡ planning u plans.number = λ j. record { actor = u; request = (plans.asked) j } in
    subst (λ (m : ℕ). IsWellKept setup (done ++ e ∷ []) u m r) (sym number)
    (subst (λ (q : Resolved). IsWellKept setup (done ++ e ∷ []) u plans.number q) (sym same)
    (record {
      before = done;
      later = [];
      cut = ap (λ last. done ++ last ∷ []) event;
      world = w;
      reached = refl;
      told = subst (λ (x : Event). reply_to setup w x ≡ replies.Status Planned) event told;
      last = λ since rest same. absurd (not_cut since rest same);
      goal = plans.goal;
      there = plans.there;
      admission = plans.admission;
      known = plans.known;
      resolved = plans.is;
      plan = chosen.0;
      planned = chosen.1;
      whole = both.0;
      gone = both.1;
    }))
  where
    not_cut : (since rest : List Event) → [] ≡ since ++ planning e.actor plans.number ∷ rest → ⊥
    not_cut [] rest same = cc
    not_cut (x ∷ since) rest same = cc

-- the goals of a user after an event of his that plans one
pub goals_planned : (setup : Setup) (w : World) (e : Event) (u : List ℕ) (plans : PlansGoal (observation_of setup w e.actor) e.request (outcome_of setup w e))
    → u ≡ e.actor
    → (after setup w e u).goals ≡ with_goal_at plans.number (planned_goal plans.goal plans.resolved) (w u).goals
goals_planned setup w e u plans own =
    let new : Goal = planned_goal plans.goal plans.resolved in
    subst (λ x. (after setup w e x).goals ≡ with_goal_at plans.number new (w x).goals) (sym own)
    (goals_after setup w e (with_goal plans.number new (w e.actor)) (replies.Status Planned) plans.outcome_is)

-- what the goal keeps then is well kept
kept_planned : (setup : Setup) (done : List Event) (e : Event) (u : List ℕ) (n : ℕ) (g : Goal) (r : Resolved)
    → (plans : PlansGoal (observation_of setup (world_after setup nothing done) e.actor) e.request (outcome_of setup (world_after setup nothing done) e))
    → u ≡ e.actor → n ≡ plans.number → planned_goal plans.goal plans.resolved ≡ g → g.resolved ≡ Some r
    → KeepsGoodClosure setup (world_after setup nothing done) e
    → IsWellKept setup (done ++ e ∷ []) u n r
kept_planned setup done e u n g r plans own number is kept good =
    let same : r ≡ plans.resolved = some_same r plans.resolved (sym kept ∙ ap (λ (y : Goal). y.resolved) (sym is)) in
    subst (λ x. IsWellKept setup (done ++ e ∷ []) x n r) (sym own) (kept_now setup done e n r plans number same good)

outcome_planned : (setup : Setup) (s : Observation) (n : ℕ) → reply_of (outcome setup s (Plan n)) ≡ replies.Status Planned
    → PlansGoal s (Plan n) (outcome setup s (Plan n))
unfolding outcome
outcome_planned setup s n = planned_so s n

-- an event that is answered that the goal is planned plans it
plans_it : (setup : Setup) (w : World) (u : List ℕ) (n : ℕ) → IsPlanned setup w u n
    → PlansGoal (observation_of setup w u) (Plan n) (outcome_of setup w (planning u n))
plans_it setup w u n =
    let s : Observation = observation_of setup w u in
    cond_both (is_user setup u) (outcome setup s (Plan n)) (Err UnknownUser) (λ (o : Outcome). reply_of o ≡ replies.Status Planned → PlansGoal s (Plan n) o)
    (λ yes. outcome_planned setup s n) (λ no told. absurd (cc))

kept_again : (setup : Setup) (done : List Event) (u : List ℕ) (n : ℕ) (g : Goal) (r : Resolved) → IsPlanned setup (world_after setup nothing done) u n
    → goal_at n (after setup (world_after setup nothing done) (planning u n) u).goals ≡ Some g → g.resolved ≡ Some r
    → KeepsGoodClosure setup (world_after setup nothing done) (planning u n) → IsWellKept setup (done ++ planning u n ∷ []) u n r
kept_again setup done u n g r told now kept good =
    let w : World = world_after setup nothing done in
    let plans = plans_it setup w u n told in
    let new : Goal = planned_goal plans.goal plans.resolved in
    let number : n ≡ plans.number = same_number n plans.number plans.asked in
    let at : goal_at n (after setup w (planning u n) u).goals ≡ Some new =
    ap (goal_at n) (goals_planned setup w (planning u n) u plans refl)
    ∙ (ap (λ m. goal_at m (with_goal_at plans.number new (w u).goals)) number ∙ put_there plans.number new plans.goal (w u).goals plans.there) in
    kept_planned setup done (planning u n) u n g r plans refl number (some_same new g (sym at ∙ now)) kept good
  where
    same_number : (n m : ℕ) → Plan n ≡ Plan m → n ≡ m
    same_number n m same = cc

-- one event more
kept_more : (setup : Setup) (done : List Event) (e : Event) (u : List ℕ) → KeepsGoodClosure setup (world_after setup nothing done) e
    → WellKept setup done u → WellKept setup (done ++ e ∷ []) u
kept_more setup done e u good well n g r there kept =
    let w : World = world_after setup nothing done in
    let now : goal_at n (after setup w e u).goals ≡ Some g = subst (λ (v : World). goal_at n (v u).goals ≡ Some g) (world_after-push setup nothing done e) there in
    elim (plans_or_not setup done e u n) [
      | inl again ↦
          subst (λ (x : Event). IsWellKept setup (done ++ x ∷ []) u n r) (sym again.0)
          (kept_again setup done u n g r again.1 (subst (λ (x : Event). goal_at n (after setup w x u).goals ≡ Some g) again.0 now) kept
          (subst (KeepsGoodClosure setup w) again.0 good))
      | inr other ↦
          let before : (h : Goal) → goal_at n (w u).goals ≡ Some h → h.resolved ≡ Some r → IsWellKept setup (done ++ e ∷ []) u n r =
          λ h at is. kept_longer setup done e u n r other (well n h r at is) in
          elim (after_follows setup w e u) [
            | inl follows ↦ elim (follows.kept n g now) [
              | inl none ↦ absurd (none_some r (sym none.1 ∙ kept))
              | inr p ↦ before p.0 p.1 (sym p.2 ∙ kept)
            ]
            | inr p ↦
                let plans = p.1 in
                elim (put_cases plans.number n (planned_goal plans.goal plans.resolved) plans.goal g (w u).goals (subst (λ x. goal_at plans.number (w x).goals ≡ Some plans.goal) (sym p.0) plans.there)
                (ap (goal_at n) (sym (goals_planned setup w e u plans p.0)) ∙ now)) [
                  | inl q ↦ kept_planned setup done e u n g r plans p.0 q.0 q.1 kept good
                  | inr stays ↦ before g stays kept
                ]
          ]
    ]
  where
    none_some : (r : Resolved) → None ≡ Some r → ⊥
    none_some r e = cc

-- ---- nothing else changes what is kept

-- an event that is answered that a goal is planned is its user's own and asks for it
asks_itself : (setup : Setup) (w : World) (e : Event) (u : List ℕ) (n : ℕ) → u ≡ e.actor
    → (plans : PlansGoal (observation_of setup w e.actor) e.request (outcome_of setup w e))
    → n ≡ plans.number → (e ≡ planning u n) × IsPlanned setup w u n
asks_itself setup w e u n own plans number =
    let event : e ≡ planning u n = λ j. record { actor = sym own j; request = (plans.asked ∙ ap Plan (sym number)) j } in
    (event, subst (λ (x : Event). reply_to setup w x ≡ replies.Status Planned) event (ap reply_of plans.outcome_is))

pub only_plans : OnlyPlansChangeKept
only_plans setup w e u n old new was now = elim (after_follows setup w e u) [
  | inl follows ↦ elim (follows.kept n new now) [
    | inl none ↦ absurd (none_some old (sym none.0 ∙ was))
    | inr p ↦ inl (p.2 ∙ ap (λ (g : Goal). g.resolved) (some_same p.0 old (sym p.1 ∙ was)))
  ]
  | inr p ↦
      let plans = p.1 in
      elim (put_cases plans.number n (planned_goal plans.goal plans.resolved) plans.goal new (w u).goals (subst (λ x. goal_at plans.number (w x).goals ≡ Some plans.goal) (sym p.0) plans.there)
      (ap (goal_at n) (sym (goals_planned setup w e u plans p.0)) ∙ now)) [
        | inl q ↦ inr (asks_itself setup w e u n p.0 plans q.0)
        | inr stays ↦ inl (ap (λ (g : Goal). g.resolved) (some_same new old (sym stays ∙ was)))
      ]
]
  where
    none_some : (g : Goal) → None ≡ Some g → ⊥
    none_some g e = cc

-- each event of a run whose closures are good keeps a good one
good_at : (setup : Setup) (w : World) (done : List Event) (e : Event) (events : List Event) → GiveGoodClosures setup w (done ++ e ∷ events)
    → KeepsGoodClosure setup (world_after setup w done) e
unfolding world_after GiveGoodClosures
good_at setup w [] e events good = good.1
good_at setup w (x ∷ done) e events good = good_at setup (after setup w x) done e events good.2

-- events that follow others
kept_all : (setup : Setup) (u : List ℕ) (done events : List Event) → GiveGoodClosures setup nothing (done ++ events) → WellKept setup done u
    → WellKept setup (done ++ events) u
kept_all setup u done [] good well = subst (λ all. WellKept setup all u) (sym (append-nil done)) well
kept_all setup u done (e ∷ events) good well =
    subst (λ all. WellKept setup all u) (append_assoc done (e ∷ []) events)
    (kept_all setup u (done ++ e ∷ []) events (subst (GiveGoodClosures setup nothing) (sym (append_assoc done (e ∷ []) events)) good)
    (kept_more setup done e u (good_at setup nothing done e events good) well))

pub kept_good : KeptClosuresAreGood
unfolding world_after
kept_good setup events u n g r good there kept = kept_all setup u [] events good (λ m h q at is. absurd (no_goal m h at)) n g r there kept
  where
    no_goal : (m : ℕ) (h : Goal) → goal_at m [] ≡ Some h → ⊥
    no_goal zero h at = cc
    no_goal (suc m) h at = cc

-- ---- planned goals keep something

stand_after : (setup : Setup) (w : World) (e : Event) (u : List ℕ) → All Stands (w u).goals → All Stands (after setup w e u).goals
stand_after setup w e u all = elim (after_follows setup w e u) [
  | inl follows ↦ follows.stand all
  | inr p ↦
      let plans = p.1 in
      let new : Goal = planned_goal plans.goal plans.resolved in
      let goals : (after setup w e u).goals ≡ with_goal_at plans.number new (w u).goals =
      subst (λ x. (after setup w e x).goals ≡ with_goal_at plans.number new (w x).goals) (sym p.0)
      (goals_after setup w e (with_goal plans.number new (w e.actor)) (replies.Status Planned) plans.outcome_is) in
      subst (All Stands) (sym goals) (stand_put plans.number new (w u).goals (λ planned. refl) all)
]
  where
    stand_put : (n : ℕ) (x : Goal) (goals : List Goal) → Stands x → All Stands goals → All Stands (with_goal_at n x goals)
    stand_put zero x goals stands all = all
    stand_put (suc i) x goals stands all = All-set Stands goals i x stands all

stand_all : (setup : Setup) (u : List ℕ) (w : World) (events : List Event) → All Stands (w u).goals → All Stands (world_after setup w events u).goals
unfolding world_after
stand_all setup u w [] all = all
stand_all setup u w (e ∷ events) all = stand_all setup u (after setup w e) events (stand_after setup w e u all)

stand_at : (n : ℕ) (g : Goal) (goals : List Goal) → All Stands goals → goal_at n goals ≡ Some g → Stands g
stand_at zero g goals all at = absurd (cc)
stand_at (suc i) g goals all at = at_place i goals all at
  where
    at_place : (i : ℕ) (goals : List Goal) → All Stands goals → slice_get goals i ≡ Some g → Stands g
    at_place i [] all at = absurd (cc)
    at_place zero (z ∷ goals) all at = subst Stands (some_same z g at) (All-head Stands z goals all)
    at_place (suc i) (z ∷ goals) all at = at_place i goals (All-tail Stands z goals all) at

pub planned_keep : PlannedGoalsKeep
planned_keep setup events u n g there planned =
    stand_at n g (world_after setup nothing events u).goals (stand_all setup u nothing events (All-nil Stands)) there planned
